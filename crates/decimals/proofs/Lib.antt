pub mod Digits
pub mod Cursors
pub mod Readers
pub mod Answers
pub mod Gathering

pub mod Counts
pub mod Dictionary
pub mod Numbering
pub mod Tables
pub mod Answers
pub mod Claims
pub mod Values

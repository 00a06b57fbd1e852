pub mod Pattern
pub mod Earliest
pub mod Choice
pub mod Answers
pub mod Claims
pub mod Examples

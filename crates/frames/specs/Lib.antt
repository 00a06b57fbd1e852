pub mod Fields
pub mod Question
pub mod Answer

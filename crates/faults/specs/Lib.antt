pub mod Faults
pub mod Claims
pub mod Examples
pub mod Words

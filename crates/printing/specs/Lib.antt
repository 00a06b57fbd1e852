pub mod Writing
pub mod Printing
pub mod Claims
pub mod Sample

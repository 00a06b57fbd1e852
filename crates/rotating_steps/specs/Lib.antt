pub mod Kinds
pub mod Tallied
pub mod Claims

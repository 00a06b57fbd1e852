pub mod Reaching
pub mod Running

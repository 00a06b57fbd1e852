pub mod Table
pub mod Level
pub mod Rounding
pub mod Levels
pub mod Examples

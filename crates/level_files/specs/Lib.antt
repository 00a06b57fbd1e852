pub mod LevelFile
pub mod Held
pub mod Examples

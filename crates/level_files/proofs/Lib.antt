pub mod LevelTexts
pub mod LevelLines
pub mod LevelFiles
pub mod Worked

pub mod Differences
pub mod NearestMultiple
pub mod Sizes
pub mod Tables
pub mod Levels
pub mod WindowLevels
pub mod Worked

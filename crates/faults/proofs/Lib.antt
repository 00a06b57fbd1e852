pub mod TextTests
pub mod ReadTexts
pub mod Explained
pub mod Samples

pub mod Written
pub mod WrittenLists
pub mod Widths
pub mod Filling
pub mod Printouts
pub mod Samples

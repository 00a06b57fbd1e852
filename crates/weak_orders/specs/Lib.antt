pub mod Says
pub mod Window
pub mod Tables
pub mod Converted
pub mod Claims

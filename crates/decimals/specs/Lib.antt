pub mod Text
pub mod Reading
pub mod Held

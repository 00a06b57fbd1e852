pub mod Sheet
pub mod Held
pub mod Judgement

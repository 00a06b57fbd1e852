pub mod Order
pub mod Rotation
pub mod Claims

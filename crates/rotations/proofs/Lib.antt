pub mod Orders
pub mod Rotations
pub mod Forms
pub mod Returns
pub mod Periods
pub mod Compared
pub mod RotationSearch
pub mod Claims

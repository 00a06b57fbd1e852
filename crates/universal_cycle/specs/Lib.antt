pub mod Round
pub mod TwoStarts
pub mod Examples

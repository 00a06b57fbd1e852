pub mod Counting
pub mod Selected
pub mod Necklaces
pub mod Exits
pub mod Claims
pub mod CountedByTour
pub mod Loop
pub mod Round

pub mod Exchange
pub mod ExactlyOnce
pub mod RoundLevels
pub mod Example
pub mod RoundNumbers
pub mod LinedUp
pub mod EveryFrame

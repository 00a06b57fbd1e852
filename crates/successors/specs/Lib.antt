pub mod Rules
pub mod ByTable
pub mod NextSymbol
pub mod StepBack
pub mod RotationUnder
pub mod Claims

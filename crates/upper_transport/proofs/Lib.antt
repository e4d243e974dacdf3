pub mod ControlRows
pub mod Fitting
pub mod Labels

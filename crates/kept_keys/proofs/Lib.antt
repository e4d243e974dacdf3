mod Same
pub mod Fitting
pub mod Finding

pub mod Few
pub mod Filling
pub mod Fronts
pub mod Putting
pub mod Resting
pub mod Timing
pub mod Tying
pub mod Waiting

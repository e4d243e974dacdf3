pub mod Sums
pub mod Moves
pub mod Fronts
pub mod Shown

pub mod Idle
pub mod Same
pub mod Within
pub mod Handled
pub mod Crossing

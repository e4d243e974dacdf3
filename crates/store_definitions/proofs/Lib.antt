pub mod Texts
mod Whole
pub mod Pushes
pub mod Wear

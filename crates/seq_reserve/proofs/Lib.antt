pub mod Keeping
pub mod Marks
pub mod Worlds

pub mod Marked
pub mod Did
pub mod Tries
pub mod Turns

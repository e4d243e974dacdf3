pub mod Begun
pub mod Hands
pub mod Room
pub mod Values

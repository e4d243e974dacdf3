pub mod OneKey
pub mod Room

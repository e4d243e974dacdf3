pub mod Held
mod Messages
pub mod Still

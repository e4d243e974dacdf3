mod Messages
mod Short
pub mod Still

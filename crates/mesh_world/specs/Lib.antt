pub mod Examples
pub mod Good
pub mod World

mod Ahead
pub mod Ways

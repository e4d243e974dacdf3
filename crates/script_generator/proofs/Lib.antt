pub mod Growing
pub mod Ranges
mod Rows

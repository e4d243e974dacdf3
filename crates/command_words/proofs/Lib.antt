pub mod Digits
pub mod Walking
pub mod Spelled

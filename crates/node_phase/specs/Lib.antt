pub mod Worked
pub mod Part

pub mod State
pub mod Answers
pub mod Readings
pub mod Role
pub mod Laws

pub mod Params
pub mod Messages
pub mod Keys
pub mod Models
pub mod Features
pub mod Publishing
pub mod Answers

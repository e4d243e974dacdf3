pub mod Keys
pub mod Handling
pub mod Early
pub mod Machine

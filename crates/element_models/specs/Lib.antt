pub mod Ends
pub mod Messages
pub mod Models
pub mod Places
pub mod Stepping

pub mod Each
pub mod Accepting
pub mod Events
pub mod Handling
pub mod Opened

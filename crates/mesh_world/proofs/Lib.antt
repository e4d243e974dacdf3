pub mod Nonces
pub mod Steps
pub mod Words

pub mod Addresses
pub mod Search

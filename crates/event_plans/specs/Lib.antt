pub mod Memory
pub mod Delivered
pub mod Own
pub mod Basis
pub mod Plans
pub mod Sending

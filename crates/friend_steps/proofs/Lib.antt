pub mod Delivered
pub mod Readings
pub mod Ttls
mod Sent
mod Heard
mod Stages
mod Published
mod Others

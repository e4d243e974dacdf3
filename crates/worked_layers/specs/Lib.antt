pub mod Walk
pub mod Segments
pub mod Friendship
pub mod Models
pub mod Sending
pub mod IvIndex
pub mod Published
pub mod LowPower

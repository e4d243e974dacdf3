pub mod Seals
pub mod Uses
pub mod Lines
pub mod Order
pub mod RunOf

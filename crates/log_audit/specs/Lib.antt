pub mod Reading
pub mod Told
pub mod Uses
pub mod Facts
pub mod Wrong

pub mod Hearing
pub mod Phases
pub mod Ticks
pub mod Own
pub mod Segments
pub mod Replying
pub mod Acting
pub mod Publishing

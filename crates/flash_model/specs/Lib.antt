pub mod Arming
pub mod Chip
pub mod Course
pub mod Memory
pub mod Octets
pub mod Past
pub mod Rewrite

pub mod Began
pub mod Bits
pub mod Changed
pub mod Leaves
pub mod Mixed
pub mod Moments
pub mod Runs

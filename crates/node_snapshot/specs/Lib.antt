pub mod Parts
pub mod Passing
pub mod Sizes
pub mod Snapshot

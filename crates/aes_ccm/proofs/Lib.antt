pub mod Loops
pub mod Blocks
pub mod Comparing
pub mod Opening
pub mod Trials

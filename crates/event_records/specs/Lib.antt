pub mod Steps
pub mod Putting
pub mod Indexes
pub mod Asked

pub mod Processes
pub mod Outputs
pub mod Laws

pub mod Accepting
pub mod Faults

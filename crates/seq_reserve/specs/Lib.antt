pub mod Faults
pub mod Reserving

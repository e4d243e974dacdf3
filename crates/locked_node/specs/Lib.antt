pub mod Known
pub mod Node
pub mod Counted
pub mod Asked
pub mod Stands

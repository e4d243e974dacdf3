pub mod Memory
pub mod Plans
pub mod Hearing
pub mod Telling
pub mod Views
pub mod Parts
pub mod Machine

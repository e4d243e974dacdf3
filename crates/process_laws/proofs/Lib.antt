pub mod Reordered
pub mod Running
pub mod Alike
pub mod Telling
pub mod Breaking
pub mod Phases
pub mod Naming

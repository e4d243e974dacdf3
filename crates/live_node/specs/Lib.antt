pub mod Status
pub mod Lived
pub mod Ends
pub mod Ending
pub mod Begun

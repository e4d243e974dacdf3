pub mod Access
pub mod Timing
pub mod OnOff
pub mod Level
pub mod Publication

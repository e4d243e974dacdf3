pub mod Quiet
pub mod Still
pub mod Idle

pub mod WrittenRun
pub mod Needed

pub mod Migration
pub mod Opened

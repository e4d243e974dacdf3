pub mod Causes
pub mod Migration

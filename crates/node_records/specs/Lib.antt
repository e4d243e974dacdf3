pub mod Full
pub mod Growth
pub mod Meaning
pub mod Places
pub mod Rows
pub mod Sources
pub mod Steps
pub mod Tables

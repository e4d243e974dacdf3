pub mod Again
pub mod Tables
pub mod Heard
pub mod Below

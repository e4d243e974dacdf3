pub mod Places
pub mod Logs
pub mod Due
pub mod Own
pub mod Still

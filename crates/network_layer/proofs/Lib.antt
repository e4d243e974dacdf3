pub mod Headers
pub mod Openings
pub mod Lists

pub mod AppRows
pub mod Held

pub mod Products
pub mod Columns
pub mod Keys

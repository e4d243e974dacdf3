pub mod Fresh
pub mod Mine
pub mod Parting

pub mod Laws
pub mod Labelled

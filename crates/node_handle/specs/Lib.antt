pub mod Nodes
pub mod Owned

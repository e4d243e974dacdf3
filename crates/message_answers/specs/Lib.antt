pub mod Kinds
pub mod Sender

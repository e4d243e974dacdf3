pub mod Rows
pub mod Pieces
pub mod Answering
pub mod Calls
pub mod Entries
pub mod Pasts
pub mod Acks

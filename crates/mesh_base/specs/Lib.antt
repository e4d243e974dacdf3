pub mod Address
pub mod IvState
pub mod Keys
pub mod Memory
pub mod Outside
pub mod Pairs
pub mod Pieces
pub mod Safety

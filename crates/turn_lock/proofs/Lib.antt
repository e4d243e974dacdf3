pub mod Places
pub mod Kept
pub mod Totals
pub mod Moves
pub mod Rests

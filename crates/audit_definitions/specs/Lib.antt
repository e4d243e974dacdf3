pub mod Input
pub mod Seals
pub mod Verdicts

pub mod Numbers
pub mod Decimals
pub mod Cuts
pub mod Keeping
pub mod Steps

pub mod Backing
pub mod Backed
pub mod Handed
pub mod Laws
pub mod Noted
pub mod Saved

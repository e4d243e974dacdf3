pub mod Happenings
pub mod Kept

pub mod Word
pub mod Rule
pub mod Seen
pub mod Dry

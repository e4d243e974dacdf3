pub mod Banks
pub mod Causes
pub mod Format
pub mod Headers
pub mod Slots
pub mod Tie
pub mod View

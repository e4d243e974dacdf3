pub mod State
pub mod Polls
pub mod Calls
pub mod Friend

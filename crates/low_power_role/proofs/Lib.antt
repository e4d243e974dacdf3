pub mod Safe
pub mod Life
pub mod Polls

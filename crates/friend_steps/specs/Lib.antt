pub mod Hearing
pub mod Replying
pub mod Sending
pub mod Publishing
pub mod Others

pub mod Segments
pub mod Steps
pub mod FriendKeys

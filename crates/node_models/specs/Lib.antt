pub mod Acts
pub mod Due
pub mod Ends
pub mod Models
pub mod Replies

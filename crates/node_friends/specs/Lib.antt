pub mod Queues
pub mod Acts
pub mod Steps

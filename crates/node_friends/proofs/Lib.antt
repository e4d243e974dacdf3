pub mod Queues
mod Stored
pub mod ActJobs
pub mod Steps

mod Groups
mod Halves
mod Newest
pub mod Recorded
mod Entries
mod Rows
mod Named
mod Messages
mod Heard
mod Passing
mod Acknowledged

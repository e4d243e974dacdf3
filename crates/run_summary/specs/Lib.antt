pub mod Summaries
pub mod Counting
pub mod Telling

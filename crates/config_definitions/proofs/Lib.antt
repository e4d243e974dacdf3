pub mod Cases
pub mod Outcomes
pub mod Leaves
pub mod Proper
pub mod Reading
pub mod Answered

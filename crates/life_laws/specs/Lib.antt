pub mod Plan
pub mod Phases
pub mod Stopped
pub mod Pairs
pub mod Hands
pub mod Living

pub mod Growing
pub mod Living
pub mod Progress
pub mod Ends
pub mod Generating
pub mod Crossing

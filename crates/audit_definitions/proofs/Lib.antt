pub mod OneInput
pub mod OneVerdict

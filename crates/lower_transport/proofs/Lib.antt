pub mod OneReading
pub mod ReservedBit

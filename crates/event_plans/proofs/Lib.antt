pub mod Narrow
pub mod Delivered
pub mod Friends
pub mod Accepts
pub mod Beacons
pub mod Own
pub mod Asked
pub mod Waiting

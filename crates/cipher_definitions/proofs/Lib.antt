pub mod Sums
pub mod Lengths
pub mod Sealing
pub mod Blocks
pub mod Octets

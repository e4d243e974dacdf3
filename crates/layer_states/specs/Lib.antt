pub mod Names
pub mod Cache
pub mod Reassembly
pub mod Sending
pub mod Friends
pub mod Calls

pub mod Numbers
pub mod Failing
pub mod Causes
pub mod Streams
pub mod Answering
pub mod Running
pub mod Reading
pub mod Doing

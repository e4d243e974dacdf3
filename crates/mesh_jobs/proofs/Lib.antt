mod Numbers
mod Phases
mod Heard
mod Published
mod Replied
pub mod Rounds

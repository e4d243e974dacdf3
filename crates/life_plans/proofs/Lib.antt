mod Drafting
mod Bearers
mod Planned

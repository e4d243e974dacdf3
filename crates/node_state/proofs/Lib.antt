mod Joined
mod Mounted

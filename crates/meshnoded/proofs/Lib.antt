mod Told
mod Ran
mod Doing
mod Made
mod Causes

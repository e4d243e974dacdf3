mod Puts
mod Indexes
mod Changes

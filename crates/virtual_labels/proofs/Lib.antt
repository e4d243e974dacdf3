mod Addresses
mod Search

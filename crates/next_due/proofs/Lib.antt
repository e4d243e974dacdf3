mod Nothing
mod Parts
mod Quiet
mod Passed

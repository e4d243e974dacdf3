mod Alike
mod Own
mod Published
mod Statuses
mod Asked

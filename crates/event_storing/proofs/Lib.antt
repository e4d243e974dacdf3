mod Loops
mod Moves

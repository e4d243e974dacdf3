mod Walking
mod Forms
mod Spelled
mod Cuts
mod Clocks

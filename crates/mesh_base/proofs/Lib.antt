pub mod Every
pub mod IvStates
pub mod OutsideLemmas
pub mod Pairs

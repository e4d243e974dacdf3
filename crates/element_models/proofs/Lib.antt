mod AsFar
mod Lists
mod Standing
mod Lives
pub mod Filled

pub mod Walking
pub mod Lists
pub mod Moving
pub mod Doing
pub mod Turning

pub mod Changes
pub mod Walking
pub mod Events

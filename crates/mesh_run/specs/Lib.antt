pub mod Causes
pub mod Ending
pub mod Kind
pub mod Ran
pub mod Reporting
pub mod Lived

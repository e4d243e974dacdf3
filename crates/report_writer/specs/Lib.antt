pub mod Writing
pub mod Handing
pub mod Lives
pub mod Phases
pub mod Reporting
pub mod Texts

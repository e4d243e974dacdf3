pub mod Forms
pub mod Answers
pub mod Outcomes
pub mod Lines
pub mod ReportLine
pub mod Stops

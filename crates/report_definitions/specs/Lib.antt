pub mod Record
pub mod Text
pub mod Report
pub mod WorkedReports

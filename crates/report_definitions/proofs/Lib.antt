pub mod WorkedReports

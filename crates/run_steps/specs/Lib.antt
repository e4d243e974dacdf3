pub mod Status
pub mod Reads
pub mod Audited
pub mod Provisioned

pub mod Handing
pub mod Written
pub mod Parts
pub mod Texts
pub mod Reporting
pub mod Cutting

pub mod Behind
pub mod Drawing
pub mod Sealing
pub mod Lives
pub mod Hears
pub mod Messages
pub mod Whole

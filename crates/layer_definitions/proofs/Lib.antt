pub mod ControlLaws
pub mod NetworkLaws
pub mod OctetLaws
pub mod UpperLaws
pub mod OrderLaws
pub mod KeyLaws
pub mod PlaceLaws

pub mod KeyName
pub mod Kind
pub mod Printed

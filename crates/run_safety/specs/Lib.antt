pub mod SafeRole
pub mod Safety
pub mod Rules

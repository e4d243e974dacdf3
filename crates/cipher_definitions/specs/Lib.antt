pub mod Octets
pub mod Aes
pub mod Ccm
pub mod Cmac
pub mod Kdf

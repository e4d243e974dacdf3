pub mod Newer

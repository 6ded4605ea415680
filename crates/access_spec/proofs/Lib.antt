pub mod Changed
pub mod Copied
pub mod Places

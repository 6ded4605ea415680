pub mod Merged
pub mod Places

pub mod Amended
pub mod Copies

pub mod Families
pub mod Notes

pub mod Finds
pub mod Ascending

pub mod Replaced
pub mod Parts
pub mod MovedTree

pub mod Sets
pub mod Facts

pub mod InOrder
pub mod Rolls

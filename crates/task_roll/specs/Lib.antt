pub mod Order
pub mod Rolls

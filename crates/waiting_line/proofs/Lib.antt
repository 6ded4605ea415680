pub mod Placing
pub mod Letting

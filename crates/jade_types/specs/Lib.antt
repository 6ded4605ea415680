pub mod Check
pub mod steps

pub mod Lines
pub mod Waiters

pub mod Kept
pub mod Endings
pub mod Leaving

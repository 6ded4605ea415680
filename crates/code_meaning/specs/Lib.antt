pub mod Meaning
pub mod Children

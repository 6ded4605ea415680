pub mod Encodings
pub mod Holds
pub mod steps

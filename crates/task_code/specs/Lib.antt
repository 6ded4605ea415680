pub mod Rules
pub mod Checking
pub mod Decoding

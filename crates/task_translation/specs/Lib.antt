pub mod Room
pub mod Keys
pub mod Compile
pub mod Correct

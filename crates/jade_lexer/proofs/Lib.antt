pub mod Cuts
pub mod Longest
pub mod Parts
pub mod Standing
pub mod Steps
pub mod Values

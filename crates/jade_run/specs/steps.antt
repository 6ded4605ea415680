pub mod Drilling
pub mod Ending
pub mod Homes
pub mod Preparing
pub mod Recording

pub mod Turns
pub mod Lists
pub mod Runs

pub mod Words
pub mod Names
pub mod Refusals
pub mod Written
pub mod Expanded
pub mod steps

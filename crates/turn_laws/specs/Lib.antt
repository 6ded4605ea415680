pub mod Spending
pub mod Told

pub mod Cutting
pub mod Unfit
pub mod Rests

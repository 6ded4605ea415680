pub mod Counting
pub mod Extents
pub mod Faultless
pub mod Limits
pub mod Measuring
pub mod Newest
pub mod Opened
pub mod Placing

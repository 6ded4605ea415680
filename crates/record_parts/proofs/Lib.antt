pub mod Apart
pub mod Cutting
pub mod Matching
pub mod Naming
pub mod Rooted
pub mod Spelling

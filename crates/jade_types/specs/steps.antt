pub mod Bodies
pub mod Counted
pub mod ItemMap
pub mod Meanings
pub mod Noted
pub mod Passed
pub mod Scoped

pub mod Drafts
pub mod Entries
pub mod Orders
-- Lemmas on the bytes that come in and go out.
pub mod Reading
pub mod Writing
mod Paths
mod Uncommuting

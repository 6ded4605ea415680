mod Scopes
pub mod Keeping
mod Values
mod Evidence
mod Follows
pub mod Statements
mod Bodies

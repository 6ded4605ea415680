pub mod Lists
pub mod Bags
pub mod Purses
pub mod FewNotes
pub mod Entries
pub mod Goes
pub mod Quiet
pub mod Touching
pub mod Desisting
pub mod Effects
pub mod Finishing
pub mod Calls
pub mod Onces
pub mod Starts
pub mod Passing
pub mod Bearing
pub mod Owners
pub mod Enrolling
pub mod Noting
pub mod Resigning
pub mod AtRoll
pub mod Splitting
pub mod Joining
pub mod Retiring
pub mod RollCalls
pub mod Endings
mod Telling
pub mod Sizes
pub mod Leaving
mod Apart
mod Tries

pub mod Ties
pub mod Names
pub mod Modes
pub mod Asked
pub mod Waits
pub mod Numbers
pub mod Tries
-- What only serves proofs.
pub mod steps

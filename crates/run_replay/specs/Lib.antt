-- What only serves the contracts of private functions.
pub mod steps

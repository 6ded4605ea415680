pub mod Playing
pub mod Whole
pub mod Stages
pub mod Executions
pub mod Telling
pub mod Left
pub mod Machines
pub mod Asks
-- What only serves the contracts of private functions.
pub mod steps

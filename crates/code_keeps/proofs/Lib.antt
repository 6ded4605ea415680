mod Rooms
mod Insides
mod Staying
mod Declared
mod Faultless
mod Fits
mod FitTerms
mod FitStatements
mod Whole
pub mod Inputs

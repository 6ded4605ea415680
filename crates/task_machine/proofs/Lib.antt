mod Commuting
mod Rows
pub mod Sparse
mod Sections
pub mod Meanings
mod Fitting
mod Following
mod Naming
pub mod Acting
mod Running
mod Leaving
mod Looking
pub mod Executing
mod Filling
pub mod Telling
mod Left
mod Tables
mod Marks
mod Asking
mod Beginning
mod Searching
mod Few
mod Standing
mod Answering
mod Changing
mod Coming
mod Entering
mod Finding
mod Halving
mod Sought
mod Quiet
mod Knowing

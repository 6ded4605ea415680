mod Talks
mod Stops
pub mod Uncommuted
mod Bounds
pub mod Groups
pub mod Alone
pub mod Filling
mod Lones
mod Plainly
mod Pieces
mod Telling
mod Starting
pub mod Soles
mod OwnTurns
mod Swapping
mod Immediate
mod Sorting
mod Ascent
mod Cells
mod Carrying
mod Answering
mod InOrder
mod Scoping
mod Covering
mod Ranging
mod Chaining
mod Framing
mod Configurations
mod Walking
mod Evaluating
mod Listing
mod Storing
mod Performing
mod Following
mod Inputting
mod Reporting
mod Examples
mod CommutingExamples
pub mod Opened
mod Ending
mod Spreading

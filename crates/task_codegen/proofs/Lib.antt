mod Ranging
mod Naming
mod Patching
mod Opening
mod Keying
mod Chaining
mod Params
mod Blocks
mod Cells
pub mod Sizing
mod Whole
mod Wants
mod Steadiness
mod Keepings

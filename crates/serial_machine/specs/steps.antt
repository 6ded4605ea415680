pub mod Settles
pub mod Budget
pub mod Stack
pub mod Pausing
pub mod Levels
pub mod Cells

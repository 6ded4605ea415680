pub mod Pieces
pub mod Recording
pub mod Form
pub mod Written
pub mod Laws
pub mod steps

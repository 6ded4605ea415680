pub mod Labels
pub mod Lines
pub mod Named
pub mod steps

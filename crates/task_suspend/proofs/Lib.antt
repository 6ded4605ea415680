pub mod Walking
pub mod Touching
pub mod Tying
pub mod Beginning
pub mod Trying
pub mod Asking

pub mod Reading
pub mod ReadingBack
pub mod Unplaced

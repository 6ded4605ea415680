pub mod Spelling
pub mod Layout
pub mod Printed
pub mod Readable

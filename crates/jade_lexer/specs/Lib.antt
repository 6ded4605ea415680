pub mod Alphabet
pub mod Cut
pub mod Lexemes
pub mod Reading

pub mod Made
pub mod Nodes
pub mod SeenTerms
pub mod SpelledTerms
pub mod MovedStatements
pub mod MovedReading

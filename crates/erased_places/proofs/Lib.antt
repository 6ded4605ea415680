mod ErasedTerms
mod ErasedStatements

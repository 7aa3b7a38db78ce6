pub mod LongTerms
pub mod Entries
pub mod WordPlaces
pub mod MadeTerms
pub mod FieldPlaces
pub mod AllTerms
pub mod FieldsInOrder
pub mod KeptDocuments
pub mod AsciiWords
mod EqualTerms
mod PostedTerms
mod SortedTerms

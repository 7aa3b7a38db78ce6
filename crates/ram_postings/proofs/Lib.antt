mod MovedSpots
mod KeptLists
pub mod BornRows
mod KeptDocuments
mod WholeBuffer
mod MarksPlaced
mod FrozenTerms
mod FrozenRows

pub mod TermOrder
mod Examples
pub mod FileSpelling
mod NameSearch
pub mod Ends
mod Grouping
mod Ordering
mod Searching
mod Marks
pub mod CodecLaws
pub mod EntryLaws
pub mod FileLaws
pub mod GroupedLaws
pub mod ItemLaws
pub mod ReadLoops
pub mod WriteLoops

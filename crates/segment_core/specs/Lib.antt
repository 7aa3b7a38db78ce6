pub mod Segments
pub mod LiveRows
pub mod Births
pub mod Marking
pub mod Columns

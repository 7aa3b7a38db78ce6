pub mod Born
pub mod Sums
pub mod Summaries
pub mod Lines
pub mod Faults

pub mod Entry
pub mod Reads
pub mod Packed

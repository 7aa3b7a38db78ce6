pub mod Slices
pub mod Entries
pub mod Taken
pub mod Laws

pub mod Spelling
pub mod Fits
pub mod Fields
pub mod Reading
pub mod ReadLists
pub mod Placing
pub mod Sizes
pub mod Pairs

pub mod Taken
pub mod Order
pub mod Gathering
pub mod Ordering
pub mod Opening
pub mod MergedNumbers

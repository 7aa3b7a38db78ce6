pub mod Draws
pub mod Operations
pub mod Made

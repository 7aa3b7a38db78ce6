pub mod Answers
pub mod Asking
pub mod Listing
pub mod Own

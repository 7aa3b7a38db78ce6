pub mod Buffer
pub mod Kept

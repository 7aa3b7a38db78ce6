pub mod Writing
pub mod Answers
pub mod Lines
pub mod Laws

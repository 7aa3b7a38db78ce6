pub mod Sound
pub mod Difference
pub mod Earlier
pub mod Known

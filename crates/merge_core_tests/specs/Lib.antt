pub mod Reading
pub mod Sources

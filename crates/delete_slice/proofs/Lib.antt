pub mod Lists
pub mod Parts
pub mod Gathering
pub mod Words
pub mod Reading
pub mod Logs
pub mod Last

pub mod Causes
pub mod Files
pub mod Images
pub mod Disk
pub mod Crash
pub mod Calls
pub mod Listing
pub mod Locks

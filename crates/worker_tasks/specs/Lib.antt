pub mod Shares
pub mod Replies

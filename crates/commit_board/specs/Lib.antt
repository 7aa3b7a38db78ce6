pub mod Board
pub mod Commits
pub mod Rule

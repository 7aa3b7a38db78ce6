pub mod Prefixes
pub mod Looks
pub mod NameLists
pub mod SettledFiles
pub mod HistoryLaws

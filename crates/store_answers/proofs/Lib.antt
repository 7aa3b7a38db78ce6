pub mod Told
pub mod Asked
pub mod Answering
pub mod EarlierRows
pub mod Listed

pub mod Knowing
pub mod Pieces
pub mod Doing
pub mod Buffers
pub mod StagedDocuments
pub mod Lines
pub mod Giving

pub mod Failing
pub mod History
pub mod Left
pub mod Names
pub mod Recording
pub mod Settled

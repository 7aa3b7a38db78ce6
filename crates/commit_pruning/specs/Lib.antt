pub mod Pruning
pub mod Deleting
pub mod Choosing
pub mod Naming

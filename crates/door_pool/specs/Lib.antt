pub mod Views
pub mod Rule
pub mod Steps
pub mod Passes
pub mod Laws

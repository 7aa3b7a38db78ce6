pub mod Lists
pub mod Chain
pub mod Views
pub mod Rule
pub mod Told
pub mod Steps
pub mod Laws

pub mod Headline
pub mod Telling
pub mod Numbering
pub mod Laws

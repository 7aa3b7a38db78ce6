pub mod Ties
pub mod Seats
pub mod Answers
pub mod Linking
pub mod Making
pub mod Cuts
pub mod Log
pub mod Copying

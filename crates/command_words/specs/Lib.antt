pub mod Options
pub mod Program
pub mod Accepted
pub mod WordLaws

pub mod Above
mod SetOver
mod Marking
mod Found
mod Later
mod FoundNow
mod Candidates
mod Halving
mod BuiltRows
mod SetLive
pub mod LiveLaws
pub mod Numbers

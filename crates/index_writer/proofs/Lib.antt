mod Begins
pub mod Gathering
mod Opening
mod Taking
mod Committing
mod LettingGo
mod MergedState
mod Following
mod Standing
mod Opened
mod Turned

mod Seeing
mod AtWork
mod Tasks
mod Giving
mod Handing
pub mod Workers
mod Sending
mod Turning

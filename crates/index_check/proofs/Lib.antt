pub mod SomeRows
mod Shared
mod Passed
mod Apart
mod Owners
mod Found
mod Heads
mod WereRead
mod Walk
mod Exact
mod Bytes
mod LastId
mod Compared

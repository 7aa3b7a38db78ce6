pub mod Outboxes
pub mod Working
pub mod Lines
pub mod Rounds

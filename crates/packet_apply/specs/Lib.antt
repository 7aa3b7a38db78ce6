pub mod Packets
pub mod Stages

pub mod Code
pub mod Replay

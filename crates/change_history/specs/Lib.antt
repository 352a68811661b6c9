pub mod Code
pub mod Replay
pub mod Last

pub mod Lines
pub mod Frames
pub mod Outcomes
pub mod Given

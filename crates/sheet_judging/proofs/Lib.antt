pub mod Slots
pub mod Progress

pub mod Packed
pub mod Groups

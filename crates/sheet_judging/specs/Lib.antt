pub mod Sheet
pub mod Kept

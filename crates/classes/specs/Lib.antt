pub mod Classes
pub mod Expansion
pub mod Ordinal
pub mod Setting
pub mod Masks
pub mod Counting
pub mod Steps

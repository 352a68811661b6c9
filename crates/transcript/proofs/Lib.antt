pub mod NameLine
pub mod Spoken
pub mod Bounds

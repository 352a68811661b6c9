pub mod Zeros
pub mod Sheet

pub mod Symbols
pub mod Reversing
pub mod Backwards
pub mod Laying

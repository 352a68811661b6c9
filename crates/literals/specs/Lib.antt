pub mod Matching
pub mod Places

pub mod Matching
pub mod Fitting
pub mod Places
pub mod Ends

pub mod Strings
pub mod Members
pub mod Fits
pub mod Exact
pub mod Search

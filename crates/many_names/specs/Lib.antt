pub mod Names
pub mod Codes
pub mod Many

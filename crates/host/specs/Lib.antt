pub mod Codes
pub mod Files
pub mod Many
pub mod Lists
pub mod Version

pub mod Bytes
pub mod StatePhones

pub mod Words
pub mod Speech
pub mod Places

pub mod Call
pub mod Counted
pub mod Written
pub mod ListedNames
pub mod Lookup
pub mod Stored

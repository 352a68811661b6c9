pub mod Appending
pub mod Entries
pub mod Descent
pub mod Longest
pub mod Sorted
pub mod Calls

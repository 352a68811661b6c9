pub mod Layout
pub mod Judging
pub mod Worded
pub mod Calls

pub mod Starts
pub mod Branching
pub mod Adding
pub mod Attaching
pub mod Following
pub mod Counting

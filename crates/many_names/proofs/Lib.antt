pub mod Runs
pub mod Names
pub mod Sizes
pub mod Answering

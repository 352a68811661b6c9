pub mod Coded
pub mod Runs
pub mod EveryList

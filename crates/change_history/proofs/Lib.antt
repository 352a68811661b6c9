pub mod Answers
pub mod LastPhones
pub mod EveryList
pub mod Turns
pub mod Cleared

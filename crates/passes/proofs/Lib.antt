pub mod Passing
pub mod Both
pub mod WordsPassed

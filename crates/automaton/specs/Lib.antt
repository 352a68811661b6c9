pub mod Automaton
pub mod Changes
pub mod Listing
pub mod Totals
pub mod Bounds

pub mod EndToEnd
pub mod EveryList
pub mod Stale

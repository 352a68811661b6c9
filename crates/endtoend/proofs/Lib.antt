pub mod Claim
pub mod EveryList
pub mod Stale

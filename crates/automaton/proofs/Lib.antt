pub mod Tests
pub mod Endings
pub mod Change
pub mod Sweep
pub mod Listing
pub mod NameLengths
pub mod Totals
pub mod Bounds

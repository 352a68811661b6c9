pub mod PhoneCells
pub mod Grouped
pub mod Padding
pub mod Counted
pub mod Writing

pub mod Whole
pub mod Joining
pub mod Bounding

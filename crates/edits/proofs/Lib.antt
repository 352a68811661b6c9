pub mod Kept
pub mod Applied
pub mod Judging
pub mod Answers
pub mod History
pub mod Counted

pub mod Replies
pub mod Shown
pub mod Eights

pub mod Replies
pub mod Sheets

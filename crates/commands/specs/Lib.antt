pub mod Editing
pub mod Lent
pub mod Filing
pub mod Monitor

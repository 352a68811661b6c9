pub mod Reports
pub mod Answering
pub mod ListNumbers

pub mod Ledger
pub mod Edits

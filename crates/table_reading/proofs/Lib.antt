pub mod Choosing
pub mod WordsRead

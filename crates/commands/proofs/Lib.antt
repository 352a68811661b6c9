pub mod AddFrame
pub mod Lent
pub mod Spoken
pub mod Writing
pub mod Dispatch
pub mod CommandLine

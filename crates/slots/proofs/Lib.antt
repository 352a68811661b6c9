pub mod Laid
pub mod Moves

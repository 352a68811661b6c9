pub mod Texts
pub mod ReadOut

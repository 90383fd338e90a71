pub mod Floats
pub mod Pieces

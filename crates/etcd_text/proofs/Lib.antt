mod Spelling
mod Pieces
mod Bodies
pub mod Facts

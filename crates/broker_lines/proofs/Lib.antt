mod OtherLines
mod Cuts
mod Words
mod Scripts
pub mod Facts

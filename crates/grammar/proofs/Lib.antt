mod Numbers
mod ItemWords
mod Cuts
mod OtherLines
mod Scripts
mod Unique
pub mod Facts

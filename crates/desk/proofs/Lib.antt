mod Settling
mod Keeping
mod Telling
mod Turns
mod Calling
pub mod Facts

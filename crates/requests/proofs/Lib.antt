mod Asked
mod Keys
mod Lines
mod Texts
mod Written
pub mod Facts

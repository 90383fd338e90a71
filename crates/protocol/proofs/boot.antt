pub mod BootedWords
pub mod Booted

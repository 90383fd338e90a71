pub mod Uniqueness
pub mod Numbers
pub mod Floors

pub mod Samples
pub mod Objects

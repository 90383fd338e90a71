pub mod Kept
pub mod Silent

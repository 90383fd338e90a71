pub mod Asking
pub mod Logged
pub mod Plain

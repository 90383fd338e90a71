pub mod Claims
pub mod Table
pub mod Looks

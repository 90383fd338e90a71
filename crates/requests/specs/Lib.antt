pub mod Line
pub mod Members
pub mod Objects
pub mod Rows

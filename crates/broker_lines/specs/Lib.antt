pub mod Grammar
pub mod Rows
pub mod Scripted
pub mod Script
pub mod Prints
pub mod Lines

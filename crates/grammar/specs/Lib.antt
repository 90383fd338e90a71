pub mod Lines
pub mod Reading
pub mod Limits
pub mod Grammar
pub mod Rows
pub mod Scripted
pub mod Script

pub mod Recording
pub mod Reading
pub mod Reader
pub mod Members
pub mod Lines

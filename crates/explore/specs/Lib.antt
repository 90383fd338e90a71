pub mod Points
pub mod Pieces
pub mod Acts
pub mod Stopped

pub mod Connections
pub mod Image
pub mod Journaled
pub mod Piping

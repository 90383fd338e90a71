pub mod Puts
pub mod Keeps
pub mod Fences
pub mod Stores

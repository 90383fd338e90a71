mod Steps
mod Restarts
pub mod Facts

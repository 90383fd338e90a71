mod Steps
mod Turns
mod Returns
mod Answered
mod Reading
pub mod Facts

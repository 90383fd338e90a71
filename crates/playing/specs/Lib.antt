pub mod Prints
pub mod Steps
pub mod Play
pub mod Transcript
pub mod Run

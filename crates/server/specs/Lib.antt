pub mod Restarting
pub mod Worked
pub mod Seen

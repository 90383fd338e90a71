pub mod Sum
pub mod Fault
pub mod Frame
pub mod Journal
pub mod Reading
pub mod Stops

pub mod Folder
pub mod Found
pub mod Stops
pub mod Stored

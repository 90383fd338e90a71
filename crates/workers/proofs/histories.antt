pub mod Histories
pub mod Endings
pub mod Rows
pub mod Starts
pub mod Steps
pub mod Stops
pub mod Renewals
pub mod Slots

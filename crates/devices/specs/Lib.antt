pub mod Devices
pub mod Unread

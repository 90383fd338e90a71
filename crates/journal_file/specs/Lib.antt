pub mod Appended
pub mod OnDevice
pub mod Restart

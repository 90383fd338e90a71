pub mod Downtime
pub mod Tellings

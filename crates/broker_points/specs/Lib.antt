pub mod Acts
pub mod Made
pub mod Plain
pub mod Reports
pub mod Points
pub mod Run
pub mod Sweep

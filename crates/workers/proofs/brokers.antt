pub mod Comings
pub mod QueueKinds
pub mod Readiness

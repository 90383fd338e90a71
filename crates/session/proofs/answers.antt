pub mod RecoverySteps
pub mod NextNumbers
pub mod Staleness
pub mod Settled
pub mod Tellings
pub mod Promises
pub mod Places

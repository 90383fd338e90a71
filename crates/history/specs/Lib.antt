pub mod Plainly
pub mod Counting
pub mod Sweeps
pub mod Fronts
pub mod Hearing
pub mod InTurn
pub mod Listening
pub mod Replaying

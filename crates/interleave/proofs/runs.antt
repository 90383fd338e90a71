pub mod Attempts
pub mod Runs
pub mod AloneCalls
pub mod AloneEnds
pub mod AloneReplies

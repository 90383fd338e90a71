pub mod Crashes
pub mod Recoveries
pub mod Uncalled

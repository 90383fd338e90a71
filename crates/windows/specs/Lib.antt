pub mod Counting
pub mod Lists
pub mod Windows
pub mod Takes
pub mod Moments
pub mod Runs
pub mod Calls

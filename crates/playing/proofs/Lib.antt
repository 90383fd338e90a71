mod Plays
mod GoingAlone
mod Recoveries
mod MayGive
mod Again
pub mod Facts

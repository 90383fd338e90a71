mod Values
mod Alike
mod Sound
mod Words
mod Pieces
mod Brokers
mod Surveys
mod Slots
pub mod Facts

mod Parts
mod Entries
mod Places
mod Inserted
mod Differences
mod Overlays
mod Overwrites
mod Sound
mod Shown
mod Images
mod Requests
mod Completing
mod Noting
pub mod Facts

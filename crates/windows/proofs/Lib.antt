pub mod Facts
mod Counts
mod Least
mod Lines
mod Given
mod Ranges
mod Apart
mod Dropping
mod Merging
mod Points
mod Numbers
mod Paired
mod Bounds
mod Short
mod Empties
mod Fates
mod Solved

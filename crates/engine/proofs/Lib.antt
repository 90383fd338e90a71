mod Newlines
mod WholeLines
mod Fitting
mod Handling
mod Long
mod Buffers
mod Replying
mod Faults
mod Telling
mod Between
mod Unknown
pub mod Facts

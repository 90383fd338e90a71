mod Making
mod Mixing
pub mod Facts

mod Twice
mod Spelled
mod Putting
mod Takers

mod Worlds
mod Created
mod Acted
mod Staying
mod Going
mod SameWords
mod PutOffs
mod Asked
mod Again
mod Printing
mod Imaged
pub mod Facts

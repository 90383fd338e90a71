-- Lemmas that the answers cite.
mod Written
mod Printing
mod Parts
mod Held

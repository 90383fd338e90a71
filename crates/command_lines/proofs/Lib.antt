-- Lemmas that the answers cite.
mod Faultless
mod ByWords
mod Fold

-- Lemmas that the answers cite.
mod Subcommand

mod order
mod runs
mod machine
mod words
mod numbers
mod recovery
mod records
mod verdicts
pub mod Facts

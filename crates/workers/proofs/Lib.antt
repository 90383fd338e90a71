mod seats
mod lists
mod guard
mod brokers
mod histories
pub mod Facts

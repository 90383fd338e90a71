mod calls
mod answers
mod downtime
mod brokers
pub mod Facts

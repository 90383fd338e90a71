mod downtime
mod acts
mod histories
mod creations
mod beginnings
mod promises
pub mod Facts

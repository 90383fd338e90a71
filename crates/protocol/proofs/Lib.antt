mod chain
mod changes
mod calls
mod records
mod worlds
mod recovery
mod told
mod boot
mod runs
pub mod Facts

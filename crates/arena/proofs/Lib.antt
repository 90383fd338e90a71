mod BrokerWords
mod Chains
pub mod Facts

pub mod Renewal
pub mod Roles
pub mod Renewed
pub mod Words
pub mod Broker
pub mod OneQueue
pub mod Zeros

pub mod Promises
pub mod KeptQueues

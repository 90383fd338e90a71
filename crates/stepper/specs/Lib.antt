pub mod Step
pub mod Preparation
pub mod Steps
pub mod Loading

pub mod Accounts
pub mod Reuse

pub mod Worlds
pub mod Histories
pub mod Renewals

pub mod NewBrokers
pub mod Boots
pub mod Migrations
pub mod Renewals
pub mod RenewedQueues
pub mod FreshSlots

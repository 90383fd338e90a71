pub mod Migrated
pub mod Words

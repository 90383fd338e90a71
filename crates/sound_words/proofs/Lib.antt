mod Alike
mod AlikeTold
mod Chains
mod EntrySteps
mod FirstBroken
mod Followed
mod Looked
mod Noted
mod Range
mod Surveys
mod Tables
mod Tellings
mod ToldBy
pub mod Facts

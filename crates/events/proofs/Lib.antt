mod Items
mod Lists
mod KeptEvents
mod Growing
mod Members
mod EffectLists
mod GrowingTold
mod GrowingReplay
mod Openings
mod TraceGrows
mod TraceEffects
mod TraceQueue
mod Interrupted
mod TraceExplains
pub mod Facts

pub mod Offered
mod Turns
mod Patterns
mod Pigeons
mod Showing
mod Rising
mod Listing
mod Covering
mod Tables
mod Same
mod Filled
mod Reading
mod Meanings
mod Explained
mod Found
mod Whole
mod Placing
mod Ending
mod Ended
mod Greatest
mod Stands
mod FittingReplies
pub mod FewClients

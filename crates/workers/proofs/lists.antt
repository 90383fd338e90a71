pub mod Answers
pub mod Counts
pub mod LastCalls
pub mod Names
pub mod Tellings
pub mod SameRow
pub mod Marks

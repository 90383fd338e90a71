pub mod GivenSeats
pub mod Turns
pub mod FirstSession
pub mod QueuesSeen

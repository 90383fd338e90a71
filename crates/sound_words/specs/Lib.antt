pub mod Kept
pub mod Told
pub mod Seen
pub mod Sound
pub mod Order

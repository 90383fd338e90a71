pub mod Item
pub mod PlainQueue
pub mod Refusal
pub mod Text
pub mod Told

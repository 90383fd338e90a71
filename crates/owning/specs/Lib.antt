pub mod Answers
pub mod Creating
pub mod Recovering
pub mod Serving

pub mod Calls
pub mod Requests
pub mod Serving
pub mod Worth
pub mod Telling
pub mod Answering

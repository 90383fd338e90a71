pub mod Engine
pub mod Requests
pub mod Run
pub mod Rules
pub mod Laws

pub mod Stages
pub mod Moments
pub mod Acts
pub mod ReadyWorlds
pub mod RecoveringWorlds
pub mod Facts
pub mod Rotated

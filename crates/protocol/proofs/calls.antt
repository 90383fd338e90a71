pub mod Stable
pub mod Preparations
pub mod Messages
pub mod Rows
pub mod Rebegun
pub mod Bound

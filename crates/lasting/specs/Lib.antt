pub mod Lasting
pub mod Settling

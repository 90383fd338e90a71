pub mod Table
pub mod Tables
pub mod Right
pub mod Covered
pub mod Bad
pub mod Heard
pub mod AllMean

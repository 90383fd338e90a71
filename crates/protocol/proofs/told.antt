pub mod Tells
pub mod Rightly
pub mod Issuing
pub mod ToldByWords
pub mod ToldOnce
pub mod StillTold

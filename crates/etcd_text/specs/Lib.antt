pub mod Tails
pub mod Asked
pub mod Texts
pub mod Answers

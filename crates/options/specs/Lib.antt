-- What a command asks, by what its options were given.
pub mod Numbers
pub mod Asked
pub mod Journals
pub mod PqxAsked

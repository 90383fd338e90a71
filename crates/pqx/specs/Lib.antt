-- What a fault says, and what is wanted.
pub mod Faults
pub mod Wanting

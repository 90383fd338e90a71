pub mod Rotations
pub mod Reservations
pub mod Room

pub mod Moments
mod Places

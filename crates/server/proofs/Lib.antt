mod Endings
mod Restarts
mod Lefts
mod Held
mod Pipes
mod Sights

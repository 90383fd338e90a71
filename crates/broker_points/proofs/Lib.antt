mod Making
mod Said
mod Plainly
mod Explaining
mod Leading
mod Sweeps

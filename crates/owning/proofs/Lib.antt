mod Going
mod Creations
mod Recoveries
mod Leading
mod Refusing
mod Fitting

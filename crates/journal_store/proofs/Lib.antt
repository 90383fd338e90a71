mod Storing
mod Cuts

mod Escaping
mod Learning
mod Writing

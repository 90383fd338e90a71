mod Beginnings
mod Tokens
mod Steps

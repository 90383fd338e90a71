mod Texts
mod Keys

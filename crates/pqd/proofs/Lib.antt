mod Files
mod Texts

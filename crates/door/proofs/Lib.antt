mod Members
mod Saying
mod Texts

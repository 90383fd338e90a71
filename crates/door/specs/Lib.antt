pub mod Hello
pub mod Judging
pub mod Secrets

pub mod Places
pub mod Seeking
pub mod Served
pub mod Giving
pub mod Verdicts
pub mod Laws
pub mod Examples

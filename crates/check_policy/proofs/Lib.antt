pub mod Parting
pub mod Bettering
pub mod Giving
pub mod Deciding
pub mod Judging
pub mod Summing
pub mod Existing

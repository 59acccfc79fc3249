mod Taken
pub mod Summed
pub mod Collected
pub mod Deciding
pub mod Existing

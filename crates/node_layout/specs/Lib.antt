pub mod Entries
pub mod Faults
pub mod Metadata
pub mod Opening
pub mod Places

pub mod Summing
pub mod Taking
pub mod Collecting
pub mod Lines

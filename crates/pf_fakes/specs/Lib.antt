pub mod Recording
pub mod Script

pub mod Names
pub mod Parts
pub mod Rendering
pub mod Pieces
pub mod Indexes
pub mod Examples

pub mod Fields
pub mod Texts
pub mod Lengths
pub mod Blocks
pub mod Rows
pub mod Secrets
pub mod InNode
pub mod Numbers

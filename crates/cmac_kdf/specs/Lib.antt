pub mod Cmac
pub mod MetadataKey
pub mod Vectors

pub mod Field
pub mod Cipher
pub mod Ghash
pub mod Multiples
pub mod Gcm
pub mod Tower
pub mod KeptKey
pub mod Vectors

mod Counting
mod Hashing
mod Adding

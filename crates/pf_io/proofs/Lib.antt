pub mod Telling
pub mod Writing
pub mod Answering
pub mod Loans
pub mod Runs
pub mod Images
pub mod Unchanged
pub mod Slices
mod SideFiles
mod SideEnds
mod Exemplified
mod Stored
mod Recorded
mod Calling
mod Stepping
mod Reading
mod Sources
mod Filling
mod Faulted
mod Crashed
mod Numbering

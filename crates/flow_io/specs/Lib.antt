pub mod Contents
pub mod Entries
pub mod Faults
pub mod Memory
pub mod Parts
pub mod Pieces
pub mod Whole

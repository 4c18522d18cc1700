pub mod Counting
pub mod Laws
pub mod Layers
pub mod Meeting
pub mod Repeats
pub mod Whole

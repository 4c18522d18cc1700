pub mod ChainLemmas
pub mod GrowLemmas
pub mod Neighbours
pub mod WalkLemmas
pub mod Writes

pub mod KeyPlaces
pub mod MapMerges
pub mod Merges
pub mod MustSets
pub mod Puts
pub mod Searches

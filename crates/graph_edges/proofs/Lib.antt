pub mod EdgesAre
pub mod Entering
pub mod Listing
pub mod OwnedAre
pub mod Unentered
pub mod Walking

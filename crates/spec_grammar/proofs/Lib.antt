pub mod Checks
pub mod GivesLemmas
pub mod Listings
pub mod Samples
pub mod Turns
pub mod Unrolled
pub mod Wholes

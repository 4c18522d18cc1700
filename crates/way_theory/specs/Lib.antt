pub mod Hops
pub mod Lists
pub mod Parts
pub mod Ways

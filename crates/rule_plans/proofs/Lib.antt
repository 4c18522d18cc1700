pub mod Hopping
pub mod Stops

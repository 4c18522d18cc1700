-- What the contracts of private functions cite.
pub mod Pairs
pub mod Taken

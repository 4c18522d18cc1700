-- What the contracts of private functions cite.
pub mod Index
pub mod Searching

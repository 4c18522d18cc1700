-- What the contracts of private functions cite.
pub mod Forms
pub mod Least

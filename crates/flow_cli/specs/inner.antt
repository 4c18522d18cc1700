-- What the contracts of private functions cite.
pub mod Read
pub mod Written

-- What the contracts of private functions cite.
pub mod Answers
pub mod Machine
pub mod Open

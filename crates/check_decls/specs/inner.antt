-- What the contracts of private functions cite.
pub mod Noting
pub mod Repeating
pub mod Sections

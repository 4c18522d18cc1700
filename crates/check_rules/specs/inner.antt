-- What the contracts of private functions cite.
pub mod Items
pub mod Tables

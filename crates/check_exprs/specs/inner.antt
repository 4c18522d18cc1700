-- What the contracts of private functions cite.
pub mod Checked
pub mod Naming
pub mod Noted
pub mod Own
pub mod Plans
pub mod Scoping
pub mod Variables

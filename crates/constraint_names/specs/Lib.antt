pub mod Laws
pub mod NamedEdits
pub mod Naming
pub mod Numbering

pub mod Declarations
pub mod Faults
pub mod inner

pub mod Domains
pub mod Laws
pub mod Lawful
pub mod Values
pub mod inner

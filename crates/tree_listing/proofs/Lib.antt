pub mod Listed
pub mod Members
pub mod Places
pub mod Properties

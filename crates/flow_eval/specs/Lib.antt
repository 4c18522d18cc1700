pub mod Accepted
pub mod Laws
pub mod Tables
pub mod inner

pub mod Analysis
pub mod Brought
pub mod Laws

pub mod Laws
pub mod Solved

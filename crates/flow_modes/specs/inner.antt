pub mod Table
pub mod Walked

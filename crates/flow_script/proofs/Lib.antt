pub mod Numbers
pub mod Paths
pub mod Single
pub mod Reading

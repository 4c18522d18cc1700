pub mod Needs
pub mod Senses

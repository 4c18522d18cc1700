pub mod Declared
pub mod Lawful

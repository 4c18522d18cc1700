pub mod Declared
pub mod Monotone

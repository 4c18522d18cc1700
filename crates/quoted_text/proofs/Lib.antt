pub mod Cuts
pub mod Escapes
pub mod Insides
pub mod Spelled

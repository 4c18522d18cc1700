pub mod Among
pub mod Named
pub mod Onto

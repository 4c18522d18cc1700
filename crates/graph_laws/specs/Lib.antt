pub mod Alike
pub mod Laws
pub mod Owners
pub mod Parts
pub mod Replacements

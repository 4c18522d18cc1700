pub mod Children
pub mod Fits
pub mod Laws
pub mod Least
pub mod Replaced

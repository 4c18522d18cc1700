pub mod Bindings
pub mod Few
pub mod Index
pub mod Laws
pub mod Matched
pub mod inner

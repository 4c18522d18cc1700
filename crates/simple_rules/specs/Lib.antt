pub mod inner
pub mod Simple

pub mod Accepted
pub mod Files
pub mod GraphText
pub mod inner
pub mod Outcome
pub mod Whole
pub mod Words

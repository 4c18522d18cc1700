-- How the containers of this crate hold their values, for types that lead back to themselves through them.
pub mod list
pub mod boxed

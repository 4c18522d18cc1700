pub mod Finding
pub mod Firsts
pub mod GathersLaws
pub mod ListLaws
pub mod TableLemmas
mod Whole

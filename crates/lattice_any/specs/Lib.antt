pub mod Joins
pub mod Members
pub mod Tables
pub mod TypeLaws
pub mod Types
pub mod inner

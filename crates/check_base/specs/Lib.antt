pub mod Earliest
pub mod Names
pub mod Tables

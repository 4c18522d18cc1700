pub mod DisorderSearch
pub mod Firsts
pub mod LawSearch
pub mod Made
pub mod Names
pub mod Ranges

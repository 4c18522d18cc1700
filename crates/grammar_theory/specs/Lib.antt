pub mod Beginnings
pub mod Choice
pub mod Faults
pub mod Laws
pub mod Reading
pub mod Texts

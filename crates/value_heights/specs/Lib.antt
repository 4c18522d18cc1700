pub mod Heights
pub mod Laws
pub mod Ranked
pub mod Tests

pub mod inner
pub mod Integers
pub mod Laws
pub mod Rising
pub mod Texts

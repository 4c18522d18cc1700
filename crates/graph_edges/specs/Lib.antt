pub mod Below
pub mod Laws
pub mod Owned
pub mod inner

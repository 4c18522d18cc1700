pub mod Bytes
pub mod Faults
pub mod Grammar
pub mod inner
pub mod Laws
pub mod Numbers
pub mod Written

pub mod Ends
pub mod Numbers
pub mod Prepared
pub mod inner

pub mod Accepted
pub mod Anywhere
pub mod Bodies

pub mod Assigned
pub mod Engines
pub mod inner
pub mod Orders
pub mod Plans
pub mod Runs

pub mod Bound
pub mod Fewer
pub mod Lawful
pub mod Made
pub mod Settled
pub mod There

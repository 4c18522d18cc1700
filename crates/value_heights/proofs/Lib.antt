pub mod Fitting
pub mod Ranks
pub mod Sums
pub mod Told
pub mod Within

pub mod Arguments
pub mod Bodies
pub mod Causes
pub mod Firsts
pub mod Found
pub mod Parts
pub mod Zips

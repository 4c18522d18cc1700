pub mod Commands
pub mod Files
pub mod Laws
pub mod Moments
pub mod Outputs

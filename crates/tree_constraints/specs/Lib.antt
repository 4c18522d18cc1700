pub mod Constraints
pub mod Elements
pub mod Laws
pub mod Orders
pub mod Solutions

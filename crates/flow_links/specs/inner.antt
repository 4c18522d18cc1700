-- What the contracts of private functions cite.
pub mod Ends
pub mod Gains
pub mod Here
pub mod Marks
pub mod Numbers
pub mod Reach

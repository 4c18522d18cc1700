pub mod GraphText
pub mod Laws
pub mod Prints
pub mod SolutionText

pub mod Carried
pub mod DomainLaws
pub mod Elements

pub mod Edits
pub mod Laws
pub mod Machine
pub mod Systems

pub mod AcceptLemmas
pub mod FileLemmas
pub mod GraphLemmas
pub mod RunLemmas
pub mod WholeLemmas

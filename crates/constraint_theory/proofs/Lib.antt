pub mod BoundLemmas
pub mod EditLemmas
pub mod LeastLemmas
pub mod NumberLemmas
pub mod VisitLemmas

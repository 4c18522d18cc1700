pub mod FormLemmas
pub mod HeldReads
pub mod LeastLemmas
pub mod PlaceLemmas

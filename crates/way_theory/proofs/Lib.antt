pub mod HopLemmas
pub mod ListLemmas
pub mod PartLemmas
pub mod WayLemmas

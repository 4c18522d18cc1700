pub mod EndFacts
pub mod HitFacts
pub mod ListFacts
pub mod NodeFacts
pub mod RowFacts
pub mod StandFacts
pub mod TargetFacts

pub mod ChildLemmas
pub mod EitherLemmas
pub mod FitLemmas
pub mod LeastLemmas
pub mod OrderLemmas
pub mod PutLemmas
pub mod StepLemmas

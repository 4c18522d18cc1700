pub mod BuildFacts
pub mod EvalFacts
pub mod ListedFacts
pub mod ReadFacts
pub mod TableFacts

pub mod BeginLemmas
pub mod Composition
pub mod FaultLemmas
pub mod PartLemmas
pub mod Readings
pub mod SymbolLemmas
pub mod WholeLemmas

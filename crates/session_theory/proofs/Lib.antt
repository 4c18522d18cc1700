pub mod CommandLemmas
pub mod EditLemmas
pub mod FileLemmas
pub mod MomentLemmas
pub mod SettleLemmas
pub mod TaintLemmas

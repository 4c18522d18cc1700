pub mod EdgeLemmas
pub mod GroupLemmas
pub mod QueueLemmas
pub mod RecordLemmas
pub mod TraceLemmas

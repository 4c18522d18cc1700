pub mod Edges
pub mod Queues
pub mod Records
pub mod Traces

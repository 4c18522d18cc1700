pub mod FunctionTables
pub mod JoinTables
pub mod Laws
pub mod Tuples
pub mod inner

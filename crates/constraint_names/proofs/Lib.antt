pub mod BackLemmas
pub mod EditBackLemmas
pub mod EditedLemmas
pub mod MapLemmas
pub mod NamingLemmas
pub mod NumberingLemmas

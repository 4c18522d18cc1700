pub mod EntriesLemmas
pub mod Fronts
pub mod PiecesLemmas

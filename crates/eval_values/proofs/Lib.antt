pub mod ElemSets
pub mod EntryLists
pub mod LeastValues
pub mod NamePlaces

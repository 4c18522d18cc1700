pub mod KindLaws
pub mod ListLaws
pub mod SortLaws
pub mod TypeLaws
pub mod TableLaws

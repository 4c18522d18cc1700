pub mod Bodies
pub mod Reading
pub mod Tables
pub mod TableLaws
pub mod inner

pub mod LevelLaws
pub mod PrimaryLaws

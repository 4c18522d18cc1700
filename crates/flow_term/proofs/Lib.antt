pub mod Lists
pub mod NodeTexts
pub mod Outcomes
pub mod AlongPaths
pub mod Same
pub mod Sizes
pub mod StepTexts

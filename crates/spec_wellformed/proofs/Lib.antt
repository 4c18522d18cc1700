pub mod Attributes
pub mod ExprTexts
pub mod Facts
pub mod Ranges
pub mod SpecTexts
pub mod WholeTexts

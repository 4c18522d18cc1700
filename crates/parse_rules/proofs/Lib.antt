pub mod PatternLaws
pub mod RuleLaws

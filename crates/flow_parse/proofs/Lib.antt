pub mod FaultLaws
pub mod RuleLaws
pub mod SectionLaws
pub mod WholeLaws

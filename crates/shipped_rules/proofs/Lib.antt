pub mod RuleLists
pub mod RuleRuns

pub mod Binders
pub mod Hooks
pub mod RuleExamples

pub mod Answers
pub mod Causes
pub mod Facts
pub mod HookFaults
pub mod Laws
pub mod Rewriting
pub mod RuleLaws
pub mod StateTypes

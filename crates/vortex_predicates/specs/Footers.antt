-- Conditions over the columns of a footer, and what pruning its row groups and pages by them says.
pub mod Choosing
pub mod Mentions
pub mod PagePruning
pub mod PageWitness
pub mod PagedGroups
pub mod Pruning
pub mod Refusals

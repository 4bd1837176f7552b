-- Binders, and what they answer to placeholders.
pub mod Binders
pub mod BoundTo
pub mod PartAnswers
pub mod PartBinder
pub mod PartFaithful
pub mod ZoneFaithful

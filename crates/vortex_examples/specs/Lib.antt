pub mod Known
pub mod KnownFaithful
pub mod KnownParts
pub mod Measuring
pub mod NullOperands
pub mod NullOperandsLaw

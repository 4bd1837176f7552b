-- True statistics answer honestly.
pub mod HonestParts
pub mod HonestStats
pub mod MeasuredParts
pub mod OwnValues
pub mod StatisticsBinders
pub mod PartLemmas
pub mod PartLiterals
pub mod StatTypes
pub mod ZoneLemmas

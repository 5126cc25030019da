pub mod VoltageLemmas
pub mod MatchingLemmas
pub mod RangeLemmas
mod PartsLemmas
mod SlopeLemmas
mod SamplesLemmas
mod UnitLemmas
pub mod ScaleLemmas

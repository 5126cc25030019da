pub mod HalvesLemmas
pub mod MeterLemmas
pub mod SeveritiesLemmas
pub mod PhaseLemmas
pub mod TakingLemmas
pub mod ResultLemmas
pub mod WorkersLemmas
pub mod TestLemmas

mod Computed
mod NearestLemmas
pub mod DesignLemmas
pub mod DesignCases

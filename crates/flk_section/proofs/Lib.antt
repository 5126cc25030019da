mod Held
pub mod SectionLemmas
pub mod RangeLemmas
pub mod NarrowLemmas
pub mod RadiusLemmas
pub mod CascadeLemmas
pub mod RowLemmas
pub mod WidthLemmas
pub mod ReachedLemmas
pub mod ChainSteps
pub mod ChainRuns
pub mod OwnLemmas
pub mod ChainLemmas
pub mod ChainBound
pub mod WholeLemmas
pub mod WholeExists
pub mod FormLemmas
pub mod OwningLemmas

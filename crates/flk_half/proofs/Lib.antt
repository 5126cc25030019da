pub mod CutterLemmas
pub mod EnclosureLemmas
pub mod WidthLemmas
pub mod IntervalsLemmas

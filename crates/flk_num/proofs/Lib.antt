pub mod SquareLemmas
pub mod SizeLemmas
pub mod ScaledLemmas
pub mod RootLemmas
pub mod QuotientLemmas
pub mod IntervalLemmas
pub mod StopLemmas
pub mod RateLemmas

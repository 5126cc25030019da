mod OneLemmas
pub mod VerdictLemmas
pub mod HeldLemmas
mod TextLemmas
mod OpenLemmas

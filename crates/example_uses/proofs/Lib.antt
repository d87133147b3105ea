pub mod TimeOrderLemmas
pub mod TimelineLemmas

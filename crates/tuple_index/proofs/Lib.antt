pub mod ColumnLemmas
pub mod CutLawLemmas
pub mod CutLemmas
pub mod IndexLemmas
pub mod JoinLemmas
pub mod TogetherLawLemmas
pub mod TogetherLemmas
pub mod TupleKeyLemmas

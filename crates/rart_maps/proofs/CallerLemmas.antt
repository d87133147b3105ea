-- The lemmas that callers' proofs cite: on maps and lists of pairs, on strings, on iterators and
-- visits.
pub use Rattle.rart_maps.proofs.ElementLemmas.{AllPairs-first, AllPairs-rest, Contains-cases, Contains-entries, Contains-here, Contains-later, Contains-nil}
pub use Rattle.rart_maps.proofs.FoundLemmas.{within_ascends, within_is_found}
pub use Rattle.rart_maps.proofs.IterationLemmas.{taken-pair}
pub use Rattle.rart_maps.proofs.OrderLemmas.{IsBefore-back, IsBefore-itself, before-lt, begins-append, begins_is_of_rest, byte_order-IsAntisymmetric, lt-before}
pub use Rattle.rart_maps.proofs.PairLawLemmas.{common_swaps, pairs-empty}
pub use Rattle.rart_maps.proofs.PrefixLemmas.{same_map, get-without_prefix, value_at-prefix_removal, value_at-under_prefix}
pub use Rattle.rart_maps.proofs.VisitLemmas.{answers-collect, answers-keep}

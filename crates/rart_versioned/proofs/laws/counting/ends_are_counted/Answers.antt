use Rattle.std.proofs.Common.{refl}
use Rattle.rart_maps.proofs.MapLemmas.{maps, sets}
use Rattle.rart_versioned.proofs.laws.counting.ends_are_counted.Goals as goal

pub returns-clause-ended_diffs : goal.returns-clause-ended_diffs
returns-clause-ended_diffs c = (
  simp (maps, sets) refl,
  simp (maps, sets) refl,
  simp (maps, sets) refl,
)

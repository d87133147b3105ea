use Rattle.std.proofs.Common.{refl}
use Rattle.std.specs.Range.Bound.{bound_map}
use Rattle.std.specs.declared.ops.Bound.TheVariants.{Unbounded}
use Rattle.rart_c.proofs.EmptyLemmas.{no-pair-within}
use Rattle.rart_c.proofs.lent.first.Goals as goal

pub returns-in-None : goal.returns-in-None
returns-in-None g c = (
  rw (c.in-None.is)
      (no-pair-within g.row.V.Denot (bound_map (λ low. low.now) c.args.low)
      Unbounded),
  refl,
)

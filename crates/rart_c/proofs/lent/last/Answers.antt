use Rattle.std.proofs.Common.{ap, refl, reverse}
use Rattle.std.specs.Range.Bound.{bound_map}
use Rattle.std.specs.declared.ops.Bound.TheVariants.{Unbounded}
use Rattle.rart_c.proofs.EmptyLemmas.{no-pair-within}
use Rattle.rart_c.proofs.lent.last.Goals as goal

pub returns-in-None : goal.returns-in-None
returns-in-None g c = (
  rw (c.in-None.is)
      (ap reverse (no-pair-within g.row.V.Denot Unbounded
      (bound_map (λ high. high.now) c.args.high))),
  refl,
)

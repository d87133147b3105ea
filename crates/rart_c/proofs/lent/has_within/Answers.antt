use Rattle.std.proofs.Common.{ℕ, List, ap, length, sym}
use Rattle.std.specs.Prelude.{◌==◌, not}
use Rattle.std.specs.Range.Bound.{bound_map}
use Rattle.rart_c.proofs.EmptyLemmas.{no-pair-within}
use Rattle.rart_c.proofs.lent.has_within.Goals as goal

pub returns-in-None : goal.returns-in-None
returns-in-None g c =
    rw (c.in-None.is)
    (sym (ap (λ (pairs : List (List ℕ × g.row.V.Denot)). not (length pairs == 0))
    (no-pair-within g.row.V.Denot (bound_map (λ low. low.now) c.args.low)
    (bound_map (λ high. high.now) c.args.high))))

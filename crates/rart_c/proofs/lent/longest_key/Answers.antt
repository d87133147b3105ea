use Rattle.std.proofs.Common.{refl}
use Rattle.rart_c.proofs.KeyLimitLemmas.{KeepsLimit-empty}
use Rattle.rart_c.proofs.lent.longest_key.Goals as goal
use Rattle.rart_c.specs.declared.limits.TheConstants.{LONGEST_KEY}
use Rattle.rart_maps.specs.Versions.{empty_at}

pub returns-in-None-clause-kept : goal.returns-in-None-clause-kept
returns-in-None-clause-kept g c =
    rw (c.in-None.is) (KeepsLimit-empty {V = g.row.V.Denot} LONGEST_KEY 0 (empty_at 0) refl)

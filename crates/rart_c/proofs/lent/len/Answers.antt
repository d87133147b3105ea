use Rattle.rart_c.proofs.EmptyLemmas.{no-length}
use Rattle.rart_c.proofs.lent.len.Goals as goal

pub returns-in-None : goal.returns-in-None
returns-in-None g c = rw (c.in-None.is) (no-length g.row.V.Denot 0)

use Rattle.rart_c.proofs.EmptyLemmas.{no-common-left, no-common-right}
use Rattle.rart_c.proofs.lent.common.Goals as goal
use Rattle.rart_c.specs.Shown.{shown}

pub returns-in_default : goal.returns-in_default
returns-in_default g c =
    rw (c.in_default.is-1) (no-common-right g.row.V.Denot (shown c.args.table).version)

pub returns-in_default-2 : goal.returns-in_default-2
returns-in_default-2 g c =
    rw (c.in_default.is-0) (no-common-left g.row.V.Denot (shown c.args.other).version)

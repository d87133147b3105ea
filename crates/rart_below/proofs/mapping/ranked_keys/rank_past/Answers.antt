use Rattle.std.proofs.Common.{sym, arith}
use Rattle.rart_below.proofs.KeyedChildrenLemmas.{rank-past}
use Rattle.rart_below.proofs.mapping.ranked_keys.rank_past.Goals as goal

pub returns-clause-value : goal.returns-clause-value
returns-clause-value c =
    sym (rank-past c.args.from c.args.keys.now
    (λ k. omega (arith, (c.type_inv.keys k).fits, c.requires)))

use Rattle.std.proofs.Common.{sym, ◌∙◌}
use Rattle.tuple_index.proofs.TupleKeyLemmas.{compared, keys-order}
use Rattle.tuple_index.proofs.laws.tuples_are_ordered_as_their_keys.Goals as goal

pub returns-clause-keys : goal.returns-clause-keys
returns-clause-keys c =
    c.cmp.ensures
    ∙ compared c.args.one c.args.other
    ∙ sym (keys-order c.args.one c.args.other c.key.ensures.narrow c.key-2.ensures.narrow)

use Rattle.std.proofs.Common.{◌∙◌}
use Rattle.tuple_index.proofs.IndexLemmas.{queried}
use Rattle.tuple_index.proofs.index.TupleIndex.query.Goals as goal

pub returns : goal.returns
returns c =
    queried c.self.inside.tree c.self.invariant c.args.self.now c.self.view_is c.args.columns.now
    c.padded_key-padded.ensures.narrow _
    (c.in_ok-prefix.ensures.bytes ∙ c.padded_key-padded.ensures.bytes)
    c.tuples_under.result c.tuples_under.ensures

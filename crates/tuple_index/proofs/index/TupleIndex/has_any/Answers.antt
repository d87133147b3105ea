use Rattle.std.proofs.Common.{◌∙◌}
use Rattle.tuple_index.proofs.CutLemmas.{some-shown}
use Rattle.tuple_index.proofs.index.TupleIndex.has_any.Goals as goal

pub returns : goal.returns
returns c =
    c.contains_prefix.ensures
    ∙ some-shown c.args.columns.now c.padded_key-key.ensures.narrow _ c.padded_key-key.ensures.bytes
    c.self.inside.tree c.self.invariant c.args.self.now c.self.view_is

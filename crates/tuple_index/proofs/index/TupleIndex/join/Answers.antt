use Rattle.tuple_index.proofs.IndexLemmas.{joined}
use Rattle.tuple_index.proofs.index.TupleIndex.join.Goals as goal

pub returns : goal.returns
returns c =
    joined c.self.inside.tree c.self.invariant c.args.self.now c.self.view_is
    c.other.inside.tree c.other.invariant c.args.other.now c.other.view_is
    c.tuples_of_both.result c.tuples_of_both.ensures

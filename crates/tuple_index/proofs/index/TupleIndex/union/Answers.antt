use Rattle.tuple_index.proofs.TogetherLemmas.{union-keys, union-tuples}
use Rattle.tuple_index.proofs.index.TupleIndex.union.Goals as goal

pub invariant_of-result : goal.invariant_of-result
invariant_of-result c =
    union-keys c.self.inside.tree c.self.invariant c.args.self.now c.self.view_is
    c.other.inside.tree c.other.invariant c.args.other.now c.other.view_is
    c.in_ok-union.field-0 c.in_ok-union.ensures

pub returns-clause-tuples : goal.returns-clause-tuples
returns-clause-tuples c =
    union-tuples c.self.inside.tree c.self.invariant c.args.self.now c.self.view_is
    c.other.inside.tree c.other.invariant c.args.other.now c.other.view_is
    c.in_ok-union.field-0 c.in_ok-union.ensures

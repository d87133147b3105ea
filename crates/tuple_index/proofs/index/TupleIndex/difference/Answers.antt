use Rattle.tuple_index.proofs.TogetherLemmas.{difference-keys, difference-tuples}
use Rattle.tuple_index.proofs.index.TupleIndex.difference.Goals as goal

pub invariant_of-result : goal.invariant_of-result
invariant_of-result c =
    difference-keys c.self.inside.tree c.self.invariant c.args.self.now c.self.view_is
    c.other.inside.tree c.other.invariant c.args.other.now c.other.view_is
    c.in_ok-difference.field-0 c.in_ok-difference.ensures

pub returns-clause-tuples : goal.returns-clause-tuples
returns-clause-tuples c =
    difference-tuples c.self.inside.tree c.self.invariant c.args.self.now c.self.view_is
    c.other.inside.tree c.other.invariant c.args.other.now c.other.view_is
    c.in_ok-difference.field-0 c.in_ok-difference.ensures

use Rattle.tuple_index.proofs.TogetherLemmas.{intersection-keys, intersection-tuples}
use Rattle.tuple_index.proofs.index.TupleIndex.intersection.Goals as goal

pub invariant_of-result : goal.invariant_of-result
invariant_of-result c =
    intersection-keys c.self.inside.tree c.self.invariant c.args.self.now c.self.view_is
    c.other.inside.tree c.other.invariant c.args.other.now c.other.view_is
    c.in_ok-intersection.field-0 c.in_ok-intersection.ensures

pub returns-clause-tuples : goal.returns-clause-tuples
returns-clause-tuples c =
    intersection-tuples c.self.inside.tree c.self.invariant c.args.self.now c.self.view_is
    c.other.inside.tree c.other.invariant c.args.other.now c.other.view_is
    c.in_ok-intersection.field-0 c.in_ok-intersection.ensures

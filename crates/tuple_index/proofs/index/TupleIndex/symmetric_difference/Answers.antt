use Rattle.tuple_index.proofs.TogetherLemmas.{symmetric-keys, symmetric-tuples}
use Rattle.tuple_index.proofs.index.TupleIndex.symmetric_difference.Goals as goal

pub invariant_of-result : goal.invariant_of-result
invariant_of-result c =
    symmetric-keys c.self.inside.tree c.self.invariant c.args.self.now c.self.view_is
    c.other.inside.tree c.other.invariant c.args.other.now c.other.view_is
    c.in_ok-symmetric_difference.field-0 c.in_ok-symmetric_difference.ensures

pub returns-clause-tuples : goal.returns-clause-tuples
returns-clause-tuples c =
    symmetric-tuples c.self.inside.tree c.self.invariant c.args.self.now c.self.view_is
    c.other.inside.tree c.other.invariant c.args.other.now c.other.view_is
    c.in_ok-symmetric_difference.field-0 c.in_ok-symmetric_difference.ensures

use Rattle.std.proofs.Common.{◌∙◌}
use Rattle.tuple_index.proofs.IndexLemmas.{answer-shown, present-shown, taken-keys, taken-tuples}
use Rattle.tuple_index.proofs.index.TupleIndex.take.Goals as goal

pub invariant_of-self : goal.invariant_of-self
invariant_of-self c =
    taken-keys c.self.inside.tree c.self.invariant c.args.self.now c.self.view_is _ c.args.tuple
    c.key.ensures.narrow (c.in_ok-key.ensures.bytes ∙ c.key.ensures.bytes)
    c.delete.new.self c.delete.result c.delete.ensures.removed c.delete.ensures.refused

pub returns-clause-answer : goal.returns-clause-answer
returns-clause-answer c =
    answer-shown c.self.inside.tree c.self.invariant c.args.self.now c.self.view_is _ c.args.tuple
    c.key.ensures.narrow (c.in_ok-key.ensures.bytes ∙ c.key.ensures.bytes)
    c.delete.result c.delete.ensures.answer

pub returns-clause-tuples : goal.returns-clause-tuples
returns-clause-tuples c =
    taken-tuples c.self.inside.tree c.self.invariant c.args.self.now c.self.view_is _ c.args.tuple
    c.key.ensures.narrow (c.in_ok-key.ensures.bytes ∙ c.key.ensures.bytes)
    c.delete.new.self c.delete.result c.delete.ensures.removed

pub returns-clause-present : goal.returns-clause-present
returns-clause-present c =
    present-shown c.self.inside.tree c.self.invariant c.args.self.now c.self.view_is _ c.args.tuple
    c.key.ensures.narrow (c.in_ok-key.ensures.bytes ∙ c.key.ensures.bytes)
    c.delete.result c.delete.ensures.present

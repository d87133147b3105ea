use Rattle.std.proofs.Common.{◌∙◌}
use Rattle.tuple_index.proofs.IndexLemmas.{answer-shown, put-keys, put-tuples}
use Rattle.tuple_index.proofs.index.TupleIndex.add.Goals as goal

pub invariant_of-self : goal.invariant_of-self
invariant_of-self c =
    put-keys c.self.inside.tree c.self.invariant c.args.self.now c.self.view_is _ c.args.tuple
    c.key.ensures.narrow (c.in_ok-key.ensures.bytes ∙ c.key.ensures.bytes)
    c.insert.new.self c.insert.result c.insert.ensures.set c.insert.ensures.refused

pub returns-clause-answer : goal.returns-clause-answer
returns-clause-answer c =
    answer-shown c.self.inside.tree c.self.invariant c.args.self.now c.self.view_is _ c.args.tuple
    c.key.ensures.narrow (c.in_ok-key.ensures.bytes ∙ c.key.ensures.bytes)
    c.insert.result c.insert.ensures.answer

pub returns-clause-tuples : goal.returns-clause-tuples
returns-clause-tuples c =
    put-tuples c.self.inside.tree c.self.invariant c.args.self.now c.self.view_is _ c.args.tuple
    c.key.ensures.narrow (c.in_ok-key.ensures.bytes ∙ c.key.ensures.bytes)
    c.insert.new.self c.insert.result c.insert.ensures.set

use Rattle.tuple_index.proofs.CutLemmas.{cut-keys, cut-number, cut-tuples, some-answered, some-refused}
use Rattle.tuple_index.proofs.index.TupleIndex.take_all.Goals as goal

pub invariant_of-self : goal.invariant_of-self
invariant_of-self c =
    cut-keys c.args.columns.now c.padded_key-key.ensures.narrow _ c.padded_key-key.ensures.bytes
    c.self.inside.tree c.self.invariant c.args.self.now c.self.view_is
    c.remove_prefix.new.self c.remove_prefix.result
    c.remove_prefix.ensures.removed c.remove_prefix.ensures.refused

pub returns-clause-answer : goal.returns-clause-answer
returns-clause-answer c =
    some-answered c.args.columns.now c.padded_key-key.ensures.narrow _
    c.padded_key-key.ensures.bytes
    c.self.inside.tree c.self.invariant c.args.self.now c.self.view_is
    c.remove_prefix.result c.remove_prefix.ensures.answer

pub returns-clause-tuples : goal.returns-clause-tuples
returns-clause-tuples c =
    cut-tuples c.args.columns.now c.padded_key-key.ensures.narrow _ c.padded_key-key.ensures.bytes
    c.self.inside.tree c.self.invariant c.args.self.now c.self.view_is
    c.remove_prefix.new.self c.remove_prefix.result
    c.remove_prefix.ensures.removed

pub returns-clause-number : goal.returns-clause-number
returns-clause-number c =
    cut-number c.args.columns.now c.padded_key-key.ensures.narrow _ c.padded_key-key.ensures.bytes
    c.self.inside.tree c.self.invariant c.args.self.now c.self.view_is
    c.remove_prefix.new.self c.remove_prefix.result
    c.remove_prefix.ensures.answer c.remove_prefix.ensures.removed

pub returns-clause-present : goal.returns-clause-present
returns-clause-present c =
    some-refused c.args.columns.now c.padded_key-key.ensures.narrow _
    c.padded_key-key.ensures.bytes
    c.self.inside.tree c.self.invariant c.args.self.now c.self.view_is
    c.remove_prefix.result c.remove_prefix.ensures.present

use Rattle.tuple_index.proofs.CutLemmas.{either-refused, restored-keys, restored-tuples}
use Rattle.tuple_index.proofs.index.TupleIndex.restore_all.Goals as goal

pub invariant_of-self : goal.invariant_of-self
invariant_of-self c =
    restored-keys c.args.columns.now c.padded_key-key.ensures.narrow _
    c.padded_key-key.ensures.bytes
    c.self.inside.tree c.self.invariant c.args.self.now c.self.view_is
    c.restore_prefix.new.self c.from.inside.tree c.from.invariant c.args.from.now
    c.from.view_is c.restore_prefix.result
    c.restore_prefix.ensures.restored c.restore_prefix.ensures.refused

pub returns-clause-tuples : goal.returns-clause-tuples
returns-clause-tuples c =
    restored-tuples c.args.columns.now c.padded_key-key.ensures.narrow _
    c.padded_key-key.ensures.bytes
    c.self.inside.tree c.self.invariant c.args.self.now c.self.view_is
    c.restore_prefix.new.self c.from.inside.tree c.from.invariant c.args.from.now
    c.from.view_is c.restore_prefix.result c.restore_prefix.ensures.restored

pub returns-clause-present : goal.returns-clause-present
returns-clause-present c =
    either-refused c.args.columns.now c.padded_key-key.ensures.narrow _
    c.padded_key-key.ensures.bytes
    c.self.inside.tree c.self.invariant c.args.self.now c.self.view_is
    c.from.inside.tree c.from.invariant c.args.from.now c.from.view_is
    c.restore_prefix.result c.restore_prefix.ensures.present

use Rattle.tuple_index.proofs.CutLemmas.{part-keys, part-tuples, some-there}
use Rattle.tuple_index.proofs.index.TupleIndex.snapshot_of.Goals as goal

pub returns-in_err-prefix_snapshot-clause-present :
    goal.returns-in_err-prefix_snapshot-clause-present
returns-in_err-prefix_snapshot-clause-present c =
    some-there c.args.columns.now c.padded_key-key.ensures.narrow _
    c.padded_key-key.ensures.bytes
    c.self.inside.tree c.self.invariant c.args.self.now c.self.view_is
    c.from_residual.result c.in_err-prefix_snapshot.ensures.present

pub invariant_of-result : goal.invariant_of-result
invariant_of-result c =
    part-keys c.args.columns.now c.padded_key-key.ensures.narrow _ c.padded_key-key.ensures.bytes
    c.self.inside.tree c.self.invariant c.args.self.now c.self.view_is
    c.in_ok-prefix_snapshot.field-0 c.in_ok-prefix_snapshot.ensures.kept

pub returns-clause-tuples : goal.returns-clause-tuples
returns-clause-tuples c =
    part-tuples c.args.columns.now c.padded_key-key.ensures.narrow _
    c.padded_key-key.ensures.bytes
    c.self.inside.tree c.self.invariant c.args.self.now c.self.view_is
    c.in_ok-prefix_snapshot.field-0 c.in_ok-prefix_snapshot.ensures.kept

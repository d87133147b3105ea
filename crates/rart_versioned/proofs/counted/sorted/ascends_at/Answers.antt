use Rattle.std.proofs.Common.{ap, ◌∙◌}
use Rattle.std.specs.Ordering.{is_lt}
use Rattle.rart_versioned.proofs.SortedLemmas.{compared, key-at}
use Rattle.rart_versioned.proofs.counted.sorted.ascends_at.Goals as goal

pub returns-clause-ascend : goal.returns-clause-ascend
returns-clause-ascend g c =
    (compared g.K.KeyTrait.bytes c.args.at c.args.pairs.now c.index-pairs-at-2.result
    c.index-pairs-at.result c.as_ref.result.now c.as_ref-key.result.now c.is_lt.result c.requires
    c.if-at-eq0.false c.as_ref.ensures c.as_ref-key.ensures
    (c.is_lt.ensures ∙ ap is_lt c.compare_bytes.ensures)).ascend

pub returns-clause-disorder : goal.returns-clause-disorder
returns-clause-disorder g c =
    (compared g.K.KeyTrait.bytes c.args.at c.args.pairs.now c.index-pairs-at-2.result
    c.index-pairs-at.result c.as_ref.result.now c.as_ref-key.result.now c.is_lt.result c.requires
    c.if-at-eq0.false c.as_ref.ensures c.as_ref-key.ensures
    (c.is_lt.ensures ∙ ap is_lt c.compare_bytes.ensures)).disorder

pub returns-clause-key : goal.returns-clause-key
returns-clause-key g c =
    key-at g.K.KeyTrait.bytes g.K.KeyTrait.MAXIMUM_SIZE c.args.at c.args.pairs.now
    c.index-pairs-at.result c.as_ref-key.result.now g.met.K.KeyTrait.admitted c.as_ref-key.ensures
    c.know_bytes_for_proof.ensures.long c.know_bytes_for_proof.ensures.bytes

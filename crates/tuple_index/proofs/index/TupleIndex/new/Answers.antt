use Rattle.std.proofs.Common.{sym, ap, subst, ◌∙◌}
use Rattle.rart_maps.specs.Pairs.{pairs}
use Rattle.rart_maps.specs.Versions.{Version}
use Rattle.tuple_index.specs.Indexes.{AreTupleKeys, tuples_in}
use Rattle.tuple_index.proofs.IndexLemmas.{keys-empty, tuples-empty}
use Rattle.tuple_index.proofs.index.TupleIndex.new.Goals as goal

pub invariant_of-result : goal.invariant_of-result
invariant_of-result c =
    subst (λ (v : Version (Unit {0})). AreTupleKeys (pairs v.content)) (sym c.new.ensures.empty)
    keys-empty

pub returns-clause-tuples : goal.returns-clause-tuples
returns-clause-tuples c =
    ap (λ (v : Version (Unit {0})). tuples_in (pairs v.content)) c.new.ensures.empty ∙ tuples-empty

use Rattle.rart_below.specs.Plain.{by_bytes}
use Rattle.rart_maps.specs.Iterations.{IsTakenFrom}
use Rattle.rart_maps.specs.Pairs.{pairs}
use Rattle.rart_versioned.proofs.UnversionedLemmas.{count_left}
use Rattle.rart_versioned.proofs.counted.tree.VersionedAdaptiveRadixTree.plain_copy.Given as goal

abbrev pub invariant-gathering : goal.invariant-gathering
invariant-gathering g l =
    IsTakenFrom (pairs l.self.content) (by_bytes g.K.KeyTrait.bytes l.pairs.items) l.items

abbrev pub decreases-gathering : goal.decreases-gathering
decreases-gathering g l = count_left l.items

use Rattle.std.proofs.Common.{length}
use Rattle.rart_maps.specs.Visits.{BySlice}
use Rattle.rart_versioned.proofs.RetainLemmas.{IsRetainedUpTo}
use Rattle.rart_versioned.proofs.counted.tree.VersionedAdaptiveRadixTree.retained.Given as goal

abbrev pub invariant-asking : goal.invariant-asking
invariant-asking g l =
    IsRetainedUpTo g.F.FnMut BySlice l.fn.self l.fn.keep l.cursor.left l.next l.keep

abbrev pub decreases-asking : goal.decreases-asking
decreases-asking g l = length l.cursor.left

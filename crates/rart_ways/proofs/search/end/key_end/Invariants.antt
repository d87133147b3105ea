use Rattle.std.proofs.Common.{◌≡◌, IfNone, IfSome}
use Rattle.rart_node.specs.Shape.{height}
use Rattle.rart_ways.specs.Plans.{IsAbove}
use Rattle.rart_ways.proofs.LookupPathLemmas.{IsSearchDown}
use Rattle.rart_ways.proofs.search.end.key_end.Given as goal

abbrev pub invariant-down : goal.invariant-down
invariant-down g l =
    let root = l.fn.root.shape in
    record {
      down : IsSearchDown root l.fn.key l.fn.work l.steps l.at.shape l.rest l.work;
      above : IfSome l.above (λ above. IsAbove l.fn.key root l.steps above.node.now.shape
          above.byte l.at.shape l.rest);
      root : IfNone l.above (l.steps ≡ 0);
    }

abbrev pub decreases-down : goal.decreases-down
decreases-down g l = height l.at.shape

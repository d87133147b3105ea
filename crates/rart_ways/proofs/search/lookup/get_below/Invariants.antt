use Rattle.rart_node.specs.Shape.{height}
use Rattle.rart_node.proofs.SearchLemmas.{IsSearchAt}
use Rattle.rart_ways.proofs.StepLemmas.{EntersAbove}
use Rattle.rart_ways.proofs.search.lookup.get_below.Given as goal

abbrev pub invariant-down : goal.invariant-down
invariant-down g l =
    let root = l.fn.root.shape in
    let s = l.at.shape in
    record {
      search : IsSearchAt root l.fn.key l.fn.work s l.rest l.work;
      above : EntersAbove root l.fn.key l.fn.work s l.rest l.work;
    }

abbrev pub decreases-down : goal.decreases-down
decreases-down g l = height l.at.shape

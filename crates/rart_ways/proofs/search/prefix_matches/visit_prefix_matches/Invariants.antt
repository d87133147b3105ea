use Rattle.std.proofs.Common.{List, ℕ}
use Rattle.rart_maps.specs.Visits.{BySlice, Visit}
use Rattle.rart_node.specs.Shape.{height}
use Rattle.rart_node.proofs.SearchLemmas.{IsSearchAt}
use Rattle.rart_ways.proofs.StepLemmas.{IsMatchAt, EntersAbove}
use Rattle.rart_ways.proofs.search.prefix_matches.visit_prefix_matches.Given as goal

abbrev pub invariant-down : goal.invariant-down
invariant-down g l =
    let root = l.fn.root.shape in
    let s = l.at.shape in
    record {
      search : IsSearchAt root l.fn.probe l.fn.work s l.rest l.work;
      above : EntersAbove root l.fn.probe l.fn.work s l.rest l.work;
      passed : List (List ℕ × g.row.V.Denot);
      match : IsMatchAt root l.fn.probe passed s l.rest;
      visits : Visit g.F.FnMut BySlice l.fn.f passed l.f;
    }

abbrev pub decreases-down : goal.decreases-down
decreases-down g l = height l.at.shape

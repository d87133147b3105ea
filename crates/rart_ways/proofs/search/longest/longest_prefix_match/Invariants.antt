use Rattle.std.proofs.Common.{◌≡◌, ◌≤◌, ℕ, List, None, IfSome, length}
use Rattle.std.specs.List.{last_or}
use Rattle.rart_node.specs.Shape.{height}
use Rattle.rart_node.proofs.SearchLemmas.{IsSearchAt}
use Rattle.rart_ways.specs.Longest.{pair_found}
use Rattle.rart_ways.proofs.StepLemmas.{IsMatchAt, EntersAbove}
use Rattle.rart_ways.proofs.search.longest.longest_prefix_match.Given as goal

abbrev pub invariant-down : goal.invariant-down
invariant-down g l =
    let root = l.fn.root.shape in
    let s = l.at.shape in
    record {
      search : IsSearchAt root l.fn.probe l.fn.work s l.rest l.work;
      above : EntersAbove root l.fn.probe l.fn.work s l.rest l.work;
      passed : List (List ℕ × g.row.V.Denot);
      match : IsMatchAt root l.fn.probe passed s l.rest;
      last : pair_found l.fn.probe l.longest ≡ last_or None passed;
      within : IfSome l.longest (λ found. found.0 ≤ length l.fn.probe);
    }

abbrev pub decreases-down : goal.decreases-down
decreases-down g l = height l.at.shape

use Rattle.std.proofs.Common.{◌≡◌}
use Rattle.rart_versioned.specs.Iterators.{height_in}
use Rattle.rart_versioned.specs.Iterators.{IsWay, matches_on, next_node}
use Rattle.rart_versioned.proofs.plain.iterators.prefix_match.next_value.Given as goal

abbrev pub invariant-down : goal.invariant-down
invariant-down g l = record {
  way : IsWay l.probe l.way;
  same : matches_on l.probe l.fn.way ≡ matches_on l.probe l.way;
}

abbrev pub decreases-down : goal.decreases-down
decreases-down g l = height_in (next_node l.way)

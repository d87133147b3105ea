use Rattle.std.proofs.Common.{ℕ, List}
use Rattle.rart_node.specs.Shape.{height}
use Rattle.rart_ways.specs.Lasts.{EndAt, IsDeepEnd, end_shape}
use Rattle.rart_ways.proofs.LastUpToLemmas.{IsBackAt}
use Rattle.rart_ways.proofs.SeekStartLemmas.{IsSeekAt}
use Rattle.rart_ways.proofs.seeking.end.find_end.Given as goal

abbrev pub invariant-down : goal.invariant-down
invariant-down g l = record {
  path : List ℕ;
  ahead : List (List ℕ × g.row.V.Denot);
  passed : List (List ℕ × g.row.V.Denot);
  seek : IsSeekAt l.edge l.fn.high l.fn.root.shape l.fn.work
      l.at.shape l.rest l.work path ahead;
  back : IsBackAt l.edge l.fn.high l.fn.root.shape l.at.shape l.rest path passed;
  turn : EndAt passed (end_shape l.turn);
  deep : IsDeepEnd (end_shape l.turn);
}

abbrev pub decreases-down : goal.decreases-down
decreases-down g l = height l.at.shape

use Rattle.std.proofs.Common.{ℕ, List}
use Rattle.rart_node.specs.Shape.{height}
use Rattle.rart_ways.specs.Starts.{StartAt, IsDeep, start_shape}
use Rattle.rart_ways.proofs.SeekStartLemmas.{IsSeekAt}
use Rattle.rart_ways.proofs.seeking.start.find_start.Given as goal

abbrev pub invariant-down : goal.invariant-down
invariant-down g l = record {
  path : List ℕ;
  ahead : List (List ℕ × g.row.V.Denot);
  seek : IsSeekAt l.edge l.fn.low l.fn.root.shape l.fn.work
      l.at.shape l.rest l.work path ahead;
  turn : StartAt ahead (start_shape l.turn);
  deep : IsDeep (start_shape l.turn);
}

abbrev pub decreases-down : goal.decreases-down
decreases-down g l = height l.at.shape

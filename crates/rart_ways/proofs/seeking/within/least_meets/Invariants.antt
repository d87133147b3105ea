use Rattle.std.proofs.Common.{◌≡◌, ◌+◌, ◌<◌, ◌≤◌, ◌⊎◌, ◌++◌, ℕ, List, length}
use Rattle.rart_node.specs.Shape.{height, prefix_of}
use Rattle.rart_ways.specs.Starts.{IsStart}
use Rattle.rart_node.specs.Trees.{pairs_of}
use Rattle.rart_node.specs.PairsBehind.{behind_path}
use Rattle.rart_ways.proofs.seeking.within.least_meets.Given as goal

abbrev pub invariant-down : goal.invariant-down
invariant-down g l = record {
  above : List ℕ;
  at : IsStart (behind_path l.fn.path (pairs_of l.fn.start.shape)) above
      l.node.shape;
  stands : l.fn.high ≡ above ++ l.rest;
  grows : l.fn.work.entered ≤ l.work.entered;
  most : l.work.entered + length l.rest ≤ l.fn.work.entered + length l.fn.high + 1;
  deep : (l.work.entered ≡ l.fn.work.entered)
      ⊎ (0 < length (prefix_of l.node.shape));
  made : l.work.made ≡ l.fn.work.made;
}

abbrev pub decreases-down : goal.decreases-down
decreases-down g l = height l.node.shape

use Rattle.std.proofs.Common.{◌≡◌, ◌+◌, ◌≤◌, ℕ, List, length, take, drop}
use Rattle.rart_node.specs.Shape.{height, prefix_of}
use Rattle.rart_ways.specs.Lasts.{IsEnd}
use Rattle.rart_node.specs.Trees.{pairs_of}
use Rattle.rart_node.specs.PairsBehind.{behind_path}
use Rattle.rart_ways.proofs.seeking.greatest.greatest.Given as goal

abbrev pub invariant-down : goal.invariant-down
invariant-down g l = record {
  above : List ℕ;
  at : IsEnd (behind_path l.path (pairs_of l.start.shape)) above
      l.node.shape;
  long : l.len ≡ length above;
  written : l.len ≤ length l.fn.room → take l.len l.room ≡ above;
  behind : (later : ℕ) → l.len ≤ later → drop later l.room ≡ drop later l.fn.room;
  grows : l.fn.work.entered ≤ l.work.entered;
  most : l.work.entered + (length l.path
      + length (prefix_of l.start.shape))
      ≤ l.fn.work.entered + (length above
      + length (prefix_of l.node.shape));
  made : l.work.made ≡ l.fn.work.made;
}

abbrev pub decreases-down : goal.decreases-down
decreases-down g l = height l.node.shape

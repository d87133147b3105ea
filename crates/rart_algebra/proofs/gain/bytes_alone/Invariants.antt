use Rattle.std.proofs.Common.{◌≡◌, ℕ, ◌&&◌, not, is_some, length}
use Rattle.rart_below.specs.ByteSets.{has_byte}
use Rattle.rart_below.specs.Children.{child_at}
use Rattle.rart_node.specs.Shape.{children_of}
use Rattle.rart_algebra.specs.Among.{HaveChild, children_among}
use Rattle.rart_algebra.proofs.gain.bytes_alone.Given as goal

abbrev pub invariant-finding : goal.invariant-finding
invariant-finding g l = record {
  there : HaveChild l.left.left (children_of l.other.shape);
  alone : (byte : ℕ) → has_byte l.alone byte ≡ (not (has_byte l.left.left byte)
      && (is_some (child_at byte (children_of l.other.shape))
      && not (is_some (child_at byte (children_of l.node.shape)))));
}

abbrev pub decreases-finding : goal.decreases-finding
decreases-finding g l = length (children_among l.left.left (children_of l.other.shape))

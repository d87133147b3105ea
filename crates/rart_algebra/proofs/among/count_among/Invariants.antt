use Rattle.std.proofs.Common.{◌≡◌, ◌+◌, length}
use Rattle.rart_node.specs.Shape.{children_of}
use Rattle.rart_algebra.specs.Among.{HaveChild, children_among}
use Rattle.rart_algebra.proofs.among.count_among.Given as goal

abbrev pub invariant-counting : goal.invariant-counting
invariant-counting g l = record {
  there : HaveChild l.left.left (children_of l.node.shape);
  counted : l.count + length (children_among l.left.left (children_of l.node.shape))
      ≡ length (children_among l.bytes (children_of l.node.shape));
}

abbrev pub decreases-counting : goal.decreases-counting
decreases-counting g l = length (children_among l.left.left (children_of l.node.shape))

use Rattle.std.proofs.Common.{◌≡◌, length}
use Rattle.rart_node.specs.Shape.{children_of}
use Rattle.rart_algebra.specs.Among.{HaveChild, children_among}
use Rattle.rart_algebra.proofs.AmongLemmas.{IsFilled}
use Rattle.rart_algebra.proofs.among.made_among.Given as goal

abbrev pub invariant-adding : goal.invariant-adding
invariant-adding g l = record {
  there : HaveChild l.left.left (children_of l.node.shape);
  filled : IsFilled l.node.shape l.bytes l.left.left l.count l.made.shape;
  still : l.work ≡ l.initial.work;
}

abbrev pub decreases-adding : goal.decreases-adding
decreases-adding g l = length (children_among l.left.left (children_of l.node.shape))

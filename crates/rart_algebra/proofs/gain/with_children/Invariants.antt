use Rattle.std.proofs.Common.{◌≡◌, length}
use Rattle.rart_node.specs.Shape.{children_of}
use Rattle.rart_algebra.specs.Among.{children_among}
use Rattle.rart_algebra.proofs.GainLemmas.{IsJoining}
use Rattle.rart_algebra.proofs.gain.with_children.Given as goal

abbrev pub invariant-adding : goal.invariant-adding
invariant-adding g l = record {
  joining : IsJoining l.fn.bytes l.other.shape l.fn.node.shape l.left.left l.joined.shape;
  still : l.work ≡ l.initial.work;
}

abbrev pub decreases-adding : goal.decreases-adding
decreases-adding g l = length (children_among l.left.left (children_of l.other.shape))

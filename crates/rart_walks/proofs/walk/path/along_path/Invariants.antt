use Rattle.std.proofs.Common.{◌≡◌, None}
use Rattle.rart_node.specs.Shape.{height}
use Rattle.rart_walks.specs.Frames.{segments_of}
use Rattle.rart_walks.specs.WalkFields.{IsFramed, nodes_open}
use Rattle.rart_walks.proofs.PathLemmas.{IsOnWay}
use Rattle.rart_walks.proofs.walk.path.along_path.Given as goal

abbrev pub invariant-down : goal.invariant-down
invariant-down g l = record {
  holds_way : g.T.KeyPath.holds l.walk.key_path (segments_of (nodes_open l.walk));
  way : IsOnWay l.part g.T.KeyPath.greatest l.fn.probe
      l.fn.root.shape l.fn.work
      l.at.shape l.rest
      (nodes_open l.walk) l.work;
  framed : IsFramed g.T.KeyPath.extent l.walk;
  none : l.walk.pending ≡ None;
}

abbrev pub decreases-down : goal.decreases-down
decreases-down g l = height l.at.shape

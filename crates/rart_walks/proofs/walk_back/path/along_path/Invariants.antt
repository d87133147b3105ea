use Rattle.std.proofs.Common.{◌≡◌, None}
use Rattle.rart_node.specs.Shape.{height}
use Rattle.rart_walks.specs.BackFields.{open_back}
use Rattle.rart_walks.specs.BackFrames.{back_segments}
use Rattle.rart_walks.proofs.BackWayLemmas.{IsOnWayBack}
use Rattle.rart_walks.proofs.walk_back.path.along_path.Given as goal

abbrev pub invariant-down : goal.invariant-down
invariant-down g l = record {
  holds_way : g.T.KeyPath.holds l.walk.key_path
      (back_segments (open_back l.walk.frames.items));
  way : IsOnWayBack l.part g.T.KeyPath.greatest l.fn.probe
      l.fn.root.shape l.fn.work
      l.at.shape l.rest
      (open_back l.walk.frames.items) l.work;
  leaf : l.walk.leaf ≡ None;
}

abbrev pub decreases-down : goal.decreases-down
decreases-down g l = height l.at.shape

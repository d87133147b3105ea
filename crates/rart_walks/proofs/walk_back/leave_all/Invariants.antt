use Rattle.rart_walks.specs.BackFields.{open_back}
use Rattle.rart_walks.specs.BackFrames.{back_segments}
use Rattle.rart_walks.proofs.walk_back.leave_all.Given as goal

abbrev pub invariant-leaving : goal.invariant-leaving
invariant-leaving g l =
    g.T.KeyPath.holds l.key_path (back_segments (open_back l.frames.items))

abbrev pub decreases-leaving : goal.decreases-leaving
decreases-leaving g l = goal.left-leaving g l

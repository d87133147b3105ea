use Rattle.std.proofs.Common.{length}
use Rattle.rart_walks.specs.BackFields.{open_back}
use Rattle.rart_walks.specs.BackFrames.{KeepsBack, back_segments}
use Rattle.rart_walks.proofs.walk_back.take_next.Given as goal

abbrev pub invariant-leaving : goal.invariant-leaving
invariant-leaving g l =
    record {
      holds : g.T.KeyPath.holds l.key_path (back_segments (open_back l.frames.items));
      keeps : KeepsBack (open_back l.initial.frames.items) (open_back l.frames.items);
    }

abbrev pub decreases-leaving : goal.decreases-leaving
decreases-leaving g l = length (open_back l.frames.items)

use Rattle.rart_ways.proofs.removal.edit.+edit_below.Given as goal

abbrev pub decreases-edit_below : goal.decreases-edit_below
decreases-edit_below g l = l.depth

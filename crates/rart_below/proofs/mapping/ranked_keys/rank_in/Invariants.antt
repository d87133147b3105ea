use Rattle.std.proofs.Common.{◌≡◌, take}
use Rattle.rart_below.specs.Layouts.{rank}
use Rattle.rart_below.proofs.mapping.ranked_keys.rank_in.Given as goal

abbrev pub invariant-loop-place : goal.invariant-loop-place
invariant-loop-place g l = l.rank ≡ rank l.byte (take l.place l.bytes)

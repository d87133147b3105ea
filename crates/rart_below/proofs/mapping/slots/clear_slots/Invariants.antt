use Rattle.std.proofs.Common.{◌≡◌, ◌<◌, None, get_or, ℕ}
use Rattle.rart_below.proofs.mapping.slots.clear_slots.Given as goal

abbrev pub invariant-loop-slot : goal.invariant-loop-slot
invariant-loop-slot g l = (place : ℕ) → place < l.slot-index → get_or l.slots place None ≡ None

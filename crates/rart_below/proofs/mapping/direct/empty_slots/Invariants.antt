use Rattle.std.proofs.Common.{◌≡◌, ◌<◌, ◌≤◌, ◌-◌, ℕ, true, None, get_or, length}
use Rattle.rart_below.specs.ByteSets.{has_byte}
use Rattle.rart_below.proofs.mapping.direct.empty_slots.Given as goal

-- the slots of the bytes so far are empty, and so are those that were
abbrev pub invariant-loop-byte : goal.invariant-loop-byte
invariant-loop-byte g l = record {
  within : l.from ≤ 256;
  long : length l.slots ≡ length l.initial.slots;
  emptied : (place : ℕ) → has_byte l.bytes place ≡ true → place < l.from
      → get_or l.slots place None ≡ None;
  empty : (place : ℕ) → get_or l.initial.slots place None ≡ None
      → get_or l.slots place None ≡ None;
}

abbrev pub decreases-loop-byte : goal.decreases-loop-byte
decreases-loop-byte g l = 256 - l.from

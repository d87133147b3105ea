-- Steps and runs: where a list of commands may lead a family, and what it may be replied.
use Rattle.std.specs.Prelude.{◌≡◌, ℕ, Bool, true, false, List, [], ◌∷◌, None, ◌⊎◌, IsTrue}
use Rattle.rart_family.specs.declared.family.command.Command.{Command}
use Rattle.rart_family.specs.declared.family.command.Command.TheVariants.{Discard, Version as NumberOf, IsEmpty, Get, Remove, Delete, Update, TryUpdate, IntersectCount}
use Rattle.rart_family.specs.Replies.{Reply, Value, Flag, NoVersion, NoRoom, NoMemory}
use Rattle.rart_family.specs.Families.{Family, reply_to, after}

-- whether out of memory may be replied in place of this reply
abbrev pub may_want_memory : {K V : Type 0} → Command K V → Reply V → Bool
may_want_memory c NoVersion = false
may_want_memory c NoRoom = false
may_want_memory (Discard place) r = false
may_want_memory (NumberOf place) r = false
may_want_memory (IsEmpty place) r = false
may_want_memory (IntersectCount left right) r = false
may_want_memory (Get place key) (Value None) = false
may_want_memory (Remove place key) (Value None) = false
may_want_memory (Delete place key) (Flag false) = false
may_want_memory (Update place key None answer) (Flag false) = false
may_want_memory (TryUpdate place key None answer) (Flag false) = false
may_want_memory c r = true

module _ {K V : Type 0} (bytes : K → List ℕ) where
  -- The command's own reply and what it leaves; or out of memory, which leaves the family.
  abbrev pub Step : Family V → Command K V → Reply V → Family V → Type 0
  Step old c r new =
      ((r ≡ reply_to bytes old c) × (new ≡ after bytes old c))
      ⊎ ((r ≡ NoMemory) × (new ≡ old) × IsTrue (may_want_memory c (reply_to bytes old c)))

  -- One command after the other, one reply a command.
  abbrev pub Run : Family V → List (Command K V) → List (Reply V) → Family V → Type 0
  Run old [] [] new = new ≡ old
  Run old (c ∷ cs) (r ∷ rs) new = (mid : Family V) × Step old c r mid × Run mid cs rs new
  Run old [] (r ∷ rs) new = ⊥
  Run old (c ∷ cs) [] new = ⊥

  -- the family after a reply
  abbrev pub next : Family V → Command K V → Reply V → Family V
  next f c NoMemory = f
  next f c r = after bytes f c

-- What a handle is once the table that it lent to a read has come back.
use Rattle.std.specs.Prelude.{◌≡◌, ⊤}
use Rattle.std.specs.Borrow.{Fml, MutBor, RattleType, follows_so}
use mathlib.Core.Option.{none}

-- what it was before
abbrev pub Rests : (R : RattleType) → MutBor R.Denot → Fml
Rests R handle =
    follows_so R R handle.ghost_name none (λ _ _. ⊤) (λ left. left ≡ handle.now)

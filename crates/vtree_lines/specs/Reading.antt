-- What the readers of words and lines answer.
use Rattle.std.specs.Prelude.{Option, MatchOption}

-- `Some` is what is read, and `None` comes where nothing is. The answer is seen by a view of it.
abbrev pub Reads : {X Y : Type 0} → (X → Y) → Option X → (Y → Type 0) → Type 0
Reads view answer Is = MatchOption answer ((y : _) → Is y → ⊥) (λ x. Is (view x))

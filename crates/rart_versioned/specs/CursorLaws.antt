-- What is said of a cursor and of how it goes on.
use Rattle.std.specs.Prelude.{◌≡◌, ◌≢◌, ℕ, List, ◌∷◌, Option, None, IfSome}
use Rattle.std.specs.Borrow.{Bor}
use Rattle.rart_versioned.specs.Cursors.{Cursor, GoesOn}

module _ (V : Type 0) where
  -- Where pairs are left, the first is given, with its key, and the others are left.
  abbrev pub CursorGoesPairByPair : Type 0
  CursorGoesPairByPair =
      (before after : Cursor V) (given : Option (Bor V)) (pair : List ℕ × V)
      (rest : List (List ℕ × V)) → before.left ≡ pair ∷ rest → GoesOn before given after
      → IfSome given (λ value. value.now ≡ pair.1) × (given ≢ None) × (after.key ≡ pair.0)
      × (after.left ≡ rest)

  -- Once none was given, none is given again.
  abbrev pub CursorStaysAtEnd : Type 0
  CursorStaysAtEnd = (before after later : Cursor V) (given : Option (Bor V)) →
      GoesOn before None after → GoesOn after given later → given ≡ None

-- Which nodes a visit has entered, where its closure ends it.
use Rattle.std.specs.Prelude.{◌≡◌, ◌+◌, ◌≤◌, ℕ, Bool, true, List, [], ◌∷◌, ◌++◌, All, count_by, length}
use Rattle.rart_below.specs.Bytes.{begins}
use Rattle.rart_node.specs.Counts.{Counts, CountsUpTo}

module _ {V : Type 0} where
  -- The test passes each string that begins one of these keys.
  abbrev pub PassesStarts : (List ℕ → Bool) → List (List ℕ × V) → Type 0
  PassesStarts test pairs =
      All (λ pair. (u : List ℕ) → begins u pair.0 ≡ true → test u ≡ true) pairs

  -- A visit of a walk that has these paths left ends on the last of these pairs: each node that it
  -- has entered is on the way to one of the keys, so they are at most as many as the paths that
  -- such a test passes, and at least one for each pair, but for those that were at hand.
  pub record EntersOnWay (paths : List (List ℕ)) (at_hand : ℕ) (before after : Counts)
      (front : List (List ℕ × V)) (last : List ℕ × V) : Type 0 where
    pub at_most : (test : List ℕ → Bool) → PassesStarts test (front ++ last ∷ [])
        → CountsUpTo (count_by test paths) 0 before after
    pub at_least : before.entered + (length front + 1) ≤ after.entered + at_hand

-- Children: a list of things, each under its byte. A mapping or a node shows one.
use Rattle.std.specs.Prelude.{◌≡◌, ℕ, List, [], ◌∷◌, ◌++◌, Option, Some, None, IsTrue, not, ◌==◌, nat_le, nat_lt, map}
use Rattle.std.specs.Ordering.{nat_cmp}
use Rattle.std.specs.FinMap.Entries.{find, put, where_key, is_sorted}

module _ {C : Type 0} where
  -- the child under the byte
  abbrev pub child_at : ℕ → List (ℕ × C) → Option C
  child_at byte children = find nat_cmp byte children

  -- the children with this one under the byte, in place of the one that is there
  abbrev pub with_child : ℕ → C → List (ℕ × C) → List (ℕ × C)
  with_child byte child children = put nat_cmp byte child children

  -- the children with none under the byte
  abbrev pub without_child : ℕ → List (ℕ × C) → List (ℕ × C)
  without_child byte children = where_key nat_cmp (λ k. not (k == byte)) children

  -- the children whose byte is not below the number
  abbrev pub children_from : ℕ → List (ℕ × C) → List (ℕ × C)
  children_from least children = where_key nat_cmp (λ k. nat_le least k) children

  -- the children whose byte is below the number
  abbrev pub children_below : ℕ → List (ℕ × C) → List (ℕ × C)
  children_below end children = where_key nat_cmp (λ k. nat_lt k end) children

  abbrev pub first_of : List (ℕ × C) → Option (ℕ × C)
  first_of [] = None
  first_of (child ∷ children) = Some child

  -- The first child was taken, and the others are left, or there was none.
  abbrev pub TakesFirst : List (ℕ × C) → Option C → List (ℕ × C) → Type 0
  TakesFirst before None after = (before ≡ []) × (after ≡ [])
  TakesFirst before (Some child) after = (byte : ℕ) × (before ≡ (byte, child) ∷ after)

  -- The same, with its byte.
  abbrev pub TakesEntry : List (ℕ × C) → Option (ℕ × C) → List (ℕ × C) → Type 0
  TakesEntry before None after = (before ≡ []) × (after ≡ [])
  TakesEntry before (Some entry) after = before ≡ entry ∷ after

  -- The last child was taken, and the others are left, or there was none.
  abbrev pub TakesLast : List (ℕ × C) → Option C → List (ℕ × C) → Type 0
  TakesLast before None after = (before ≡ []) × (after ≡ [])
  TakesLast before (Some child) after = (byte : ℕ) × (before ≡ after ++ (byte, child) ∷ [])

  -- This is the last child, or there is none.
  abbrev pub IsLastOf : List (ℕ × C) → Option C → Type 0
  IsLastOf children None = children ≡ []
  IsLastOf children (Some child) =
      (others : List (ℕ × C)) × (byte : ℕ) × (children ≡ others ++ (byte, child) ∷ [])

  -- The bytes strictly rise.
  abbrev pub IsAscending : List (ℕ × C) → Type 0
  IsAscending children = IsTrue (is_sorted nat_cmp children)

-- the children, this done to each
abbrev pub map_children : {A B : Type 0} → (A → B) → List (ℕ × A) → List (ℕ × B)
map_children f children = map (λ child. (child.0, f child.1)) children

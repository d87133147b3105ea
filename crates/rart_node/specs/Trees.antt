-- What a tree of nodes means: the value of each byte string.
use Rattle.std.specs.Prelude.{◌≡◌, ℕ, ◌==◌, ◌++◌, Bool, true, false, List, [], ◌∷◌, Option, Some, None, Result, Ok, Err, IsTrue, ⊤, length, map, if◌then◌else◌, take, drop, slice_index_or, ◌+◌, max}
use Rattle.std.specs.Option.{option_and_then}
use Rattle.std.specs.Str.{bytes_eq}
use Rattle.rart_below.specs.Children as children
use Rattle.rart_node.specs.Shape.{Shape, Forest, node, bare, grown, prefix_of, entries_of, widenings}

-- what is left of q behind p, where p begins it
abbrev pub strip_prefix : List ℕ → List ℕ → Option (List ℕ)
strip_prefix [] q = Some q
strip_prefix (b ∷ p) [] = None
strip_prefix (b ∷ p) (c ∷ q) = if c == b then strip_prefix p q else None

-- The string begins with the byte.
abbrev pub BeginsWith : ℕ → List ℕ → Type 0
BeginsWith byte [] = ⊥
BeginsWith byte (b ∷ w) = b ≡ byte

-- whether the string begins with the byte
abbrev pub is_first : ℕ → List ℕ → Bool
is_first byte [] = false
is_first byte (b ∷ w) = b == byte

-- the first where the string is empty, else the second
abbrev pub at_end : {A : Type 0} → List ℕ → A → A → A
at_end [] here below = here
at_end (b ∷ w) here below = below

module _ {V : Type 0} where
  abbrev mutual
    -- the value of a string: a node's own where the string ends with its prefix, else what the
    -- child under the next byte has
    pub found : Shape V → List ℕ → Option V
    found (node prefix value width forest) q =
        option_and_then (λ rest. at_end rest value (found_below forest rest))
        (strip_prefix prefix q)

    pub found_below : Forest V → List ℕ → Option V
    found_below bare q = None
    found_below (grown byte child forest) q =
        if is_first byte q then found child q else found_below forest q

  -- whether there is a value, or two children at least
  abbrev pub is_key_or_fork : Option V → Forest V → Bool
  is_key_or_fork (Some value) forest = true
  is_key_or_fork None bare = false
  is_key_or_fork None (grown byte child bare) = false
  is_key_or_fork None (grown byte child (grown next other forest)) = true

  abbrev mutual
    -- At each node the children ascend, the prefix of each begins with its byte, and there is a
    -- value, or two children at least.
    pub IsTree : Shape V → Type 0
    IsTree (node prefix value width forest) =
        children.IsAscending (entries_of forest) × AreBranches forest
        × IsTrue (is_key_or_fork value forest)

    pub AreBranches : Forest V → Type 0
    AreBranches bare = ⊤
    AreBranches (grown byte child forest) =
        BeginsWith byte (prefix_of child) × IsTree child × AreBranches forest

  -- The same but for the node itself, which may have no value and fewer children.
  abbrev pub IsOrdered : Shape V → Type 0
  IsOrdered (node prefix value width forest) =
      children.IsAscending (entries_of forest) × AreBranches forest

  -- A first byte that a node's prefix shares with the key stays.
  abbrev pub KeepsFirst : List ℕ → Shape V → Shape V → Type 0
  KeepsFirst key before after = (byte : ℕ) → BeginsWith byte (prefix_of before)
      → BeginsWith byte key → BeginsWith byte (prefix_of after)

  -- After, the tree has the value at the key, and else what it had.
  abbrev pub IsPut : List ℕ → V → Shape V → Shape V → Type 0
  IsPut key value before after =
      IsTree after × ((q : List ℕ) → found after q
      ≡ (if bytes_eq q key then Some value else found before q)) × KeepsFirst key before after

  -- A call that puts the value at the key answers what was there. Refused, it leaves what was.
  abbrev pub Puts : {E : Type 0} → Result (Option V) E → List ℕ → V → Shape V → Shape V → Type 0
  Puts (Ok old) key value before after = IsPut key value before after × (old ≡ found before key)
  Puts (Err refused) key value before after = after ≡ before

  -- After, nothing is at the key, and else what was there. A first byte of the node's prefix stays.
  abbrev pub IsTaken : List ℕ → Shape V → Shape V → Type 0
  IsTaken key before after =
      IsTree after × ((q : List ℕ)
      → found after q ≡ (if bytes_eq q key then None else found before q))
      × ((byte : ℕ) → BeginsWith byte (prefix_of before) → BeginsWith byte (prefix_of after))

  -- the node cut inside its prefix: a parent of width 4 with the first bytes, over the node with
  -- the others
  abbrev pub cut_at : ℕ → Shape V → Shape V
  cut_at at (node prefix value width forest) =
      node (take at prefix) None 4 (grown (slice_index_or prefix at 0)
      (node (drop at prefix) value width forest) bare)

  -- how many nodes are made where a value is put at the end of a node's prefix, or in a new leaf
  -- below the node
  abbrev pub ending : Shape V → List ℕ → ℕ
  ending s rest = at_end rest 0 (widenings s + 1)

  -- the most nodes that are on the path that a key takes from here
  abbrev pub path_bound : Shape V → List ℕ → ℕ
  path_bound s key = at_end (prefix_of s) (length key + 1) (max 1 (length key))

  -- a node's own pair
  abbrev pub own_pair : Option V → List (List ℕ × V)
  own_pair None = []
  own_pair (Some value) = ([], value) ∷ []

  abbrev mutual
    -- all pairs, a node's own before those of its children
    pub pairs_of : Shape V → List (List ℕ × V)
    pairs_of (node prefix value width forest) =
        map (λ pair. (prefix ++ pair.0, pair.1)) (own_pair value ++ pairs_below forest)

    pub pairs_below : Forest V → List (List ℕ × V)
    pairs_below bare = []
    pairs_below (grown byte child forest) = pairs_of child ++ pairs_below forest

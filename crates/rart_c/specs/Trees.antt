-- A tree as a program has it: a version, and how long a key may be.
use Rattle.std.specs.Prelude.{◌≤◌, ℕ, IsTrue, List, length, refl}
use Rattle.std.specs.Coded.{Coded, code_by, coded×, coded_ℕ}
use Rattle.rart_c.specs.declared.limits.TheConstants.{LONGEST_KEY}
use Rattle.rart_maps.specs.Versions.{Map, Version, empty_at, has_key, version_code}

pub record Tree (V : Type 0) : Type 0 where
  pub version : Version V
  pub longest : ℕ

abbrev pub tree_code : {V : Type 0} → Coded V → Coded (Tree V)
tree_code {V} values =
    code_by (Version V × ℕ) (coded× (version_code values) coded_ℕ)
    (λ tree. (tree.version, tree.longest)) (λ p. record { version = p.0; longest = p.1 }) (λ _. refl)

module _ {V : Type 0} where
  -- no key, this number, and keys as long as they may be at first
  abbrev pub tree_at : ℕ → Tree V
  tree_at number = record { version = empty_at number; longest = LONGEST_KEY }

  -- the same with another version
  abbrev pub of_version : Tree V → Version V → Tree V
  of_version tree version = record { version = version; longest = tree.longest }

  -- the same with another map, its number the same
  abbrev pub of_content : Tree V → Map V → Tree V
  of_content tree content =
      of_version tree (record { content = content; number = tree.version.number })

  -- the same, keys as long as this
  abbrev pub with_longest : Tree V → ℕ → Tree V
  with_longest tree longest = record { version = tree.version; longest = longest }

  -- No key is longer than a key may be.
  abbrev pub KeepsLimit : Tree V → Type 0
  KeepsLimit tree = (key : List ℕ) → IsTrue (has_key tree.version key) → length key ≤ tree.longest

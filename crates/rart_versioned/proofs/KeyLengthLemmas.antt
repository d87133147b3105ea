-- How long the keys below a root are: short enough for whatever key path a walk keeps.
use Rattle.std.proofs.Common.{◌≤◌, ◌-◌, ◌^◌, ℕ, List, Option, Some, is_some, length, sym, ap, subst, ◌∙◌, arith}
use Rattle.std.specs.Prelude.{All, Contains}
use Rattle.rart_below.specs.Bytes.{IsAdmitted}
use Rattle.rart_node.specs.Shape.{Shape}
use Rattle.rart_node.specs.Trees.{pairs_of}
use Rattle.rart_walks.specs.Walks.{AreShort}
use Rattle.rart_maps.proofs.ElementLemmas.{All-from_contains}
use Rattle.rart_maps.proofs.FoundLemmas.{Contains-pairs}
use Rattle.rart_versioned.specs.Keys.{IsKeyLength}
use Rattle.rart_versioned.specs.Roots.{map_of, IsSound}
use Rattle.rart_versioned.proofs.VersionMapLemmas.{get-found, pairs-map}

module _ {V : Type 0} (most : Option ℕ) (count : ℕ) (root : Shape V)
    (sound : IsSound most count (Some root)) where
  -- Each key below a sound root has a length that it may have.
  pub pair-length : (pair : List ℕ × V) → Contains (pairs_of root) pair →
      IsKeyLength most (length pair.0)
  pair-length pair there =
      let map = map_of (Some root) in
      let listed = subst (λ list. Contains list pair) (sym (pairs-map (Some root) sound.0)) there in
      let value = (Contains-pairs map pair.0 pair.1).0 listed in
      (sound.1 pair.0 (ap is_some (sym (get-found (Some root) pair.0 sound.0) ∙ value))).0

  -- for a key path of segments
  pub short-segments : AreShort (Some (2 ^ 64 - 1)) (pairs_of root)
  short-segments =
      All-from_contains (λ (pair : List ℕ × V). length pair.0 ≤ 2 ^ 64 - 1) (pairs_of root)
      (λ pair there. let fits = (pair-length pair there).1 in omega (arith, fits))

  -- A key can be made of each.
  pub admitted-pairs :
      All (λ (pair : List ℕ × V). IsAdmitted most (length pair.0)) (pairs_of root)
  admitted-pairs =
      All-from_contains (λ (pair : List ℕ × V). IsAdmitted most (length pair.0)) (pairs_of root)
      (λ pair there. (pair-length pair there).0)

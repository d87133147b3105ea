-- What a removal below the root makes of the map, and that all stays in order.
use Rattle.std.proofs.Common.{◌≡◌, ℕ, ◌-◌, ◌≤◌, List, Option, Some, None, IsSome, is_some, length, cond, Bool, true, false, arith, sym, ap, subst, ◌∙◌}
use Rattle.std.specs.Ordering.{eq_by_cmp}
use Rattle.std.specs.Str.{bytes_eq}
use Rattle.std.proofs.lemmas.Bool.{false≢true}
use Rattle.std.proofs.lemmas.Cmp.{nat_list_cmp_total}
use Rattle.std.proofs.lemmas.Map.Text.{is_eq-slice_cmp}
use Rattle.std.specs.FinMap as finite
use Rattle.rart_below.specs.Bytes.{byte_order, IsAdmitted}
use Rattle.rart_versioned.specs.Keys.{IsKey}
use Rattle.rart_node.specs.Shape.{Shape}
use Rattle.rart_ways.specs.Removals.{AreAdmitted, IsTakenOr}
use Rattle.rart_maps.specs.Versions.{Version, value_at, without_key}
use Rattle.rart_versioned.specs.SlotChanges.{without_if_there}
use Rattle.rart_versioned.specs.Roots.{found_in, IsTreeIn, map_of, IsSound}
use Rattle.rart_versioned.proofs.VersionMapLemmas.{get-found}
use Rattle.rart_versioned.proofs.SoundLemmas.{tree-in, few, admitted, same-map}

one-less : (t : Bool) (m n : ℕ) → m ≤ n → cond t (m - 1) m ≤ n
one-less true m n le = omega (arith, le)
one-less false m n le = le

module _ {V : Type 0} where
  -- After, nothing is at the key below the root, if there still is one, and else what was there.
  abbrev pub IsTakenIn : List ℕ → Option (Shape V) → Option (Shape V) → Type 0
  IsTakenIn key before after =
      IsTreeIn after × ((q : List ℕ)
      → found_in after q ≡ cond (bytes_eq q key) None (found_in before q))

  -- a root that is left empty goes
  abbrev pub kept : Bool → Shape V → Option (Shape V)
  kept left_empty root = cond left_empty None (Some root)

  pub root-taken : (key : List ℕ) (root after : Shape V) (left_empty : Bool) (o : Option (Shape V))
      → IsTakenOr left_empty key root after → o ≡ kept left_empty after
      → IsTakenIn key (Some root) o
  root-taken key root after true o taken is =
      subst (IsTakenIn key (Some root)) (sym is) (tt, λ q. sym (taken.2 q))
  root-taken key root after false o taken is =
      subst (IsTakenIn key (Some root)) (sym is) (taken.0, taken.1)

  -- a key of a sound root is as long as a prefix may be
  pub sound-admitted : (most of_prefix : Option ℕ) (count : ℕ) (root : Shape V)
      → IsSound most count (Some root) → of_prefix ≡ most → AreAdmitted of_prefix root
  sound-admitted most of_prefix count root sound same key there =
      subst (λ m. IsAdmitted m (length key)) (sym same) (sound.1 key there).0.0

  -- an absent key: nothing changes
  pub absent-stays : (v : Version V) (w : List ℕ) (more : ℕ) → value_at v w ≡ None
      → v ≡ without_if_there v w more
  absent-stays v w more none = sym (ap (λ o. cond (is_some o) (without_key v w more) v) none)

  pub present-outcome : (v : Version V) (w : List ℕ) (more : ℕ) → is_some (value_at v w) ≡ true
      → without_key v w more ≡ without_if_there v w more
  present-outcome v w more there = sym (ap (λ t. cond t (without_key v w more) v) there)

  -- ---- in the words of the map
  pub map-taken : (before after : Option (Shape V)) (key : List ℕ) → IsTreeIn before
      → IsTakenIn key before after → map_of after ≡ finite.remove (map_of before) key
  map-taken before after key tree taken =
      same-map (map_of after) (finite.remove (map_of before) key) (λ q.
      get-found after q taken.0 ∙ taken.1 q
      ∙ ap (λ t. cond t None (found_in before q)) (sym (is_eq-slice_cmp q key))
      ∙ ap (cond (eq_by_cmp byte_order q key) None) (sym (get-found before q tree))
      ∙ sym (finite.get-remove nat_list_cmp_total (map_of before) key q))

  pub sound-taken : (most : Option ℕ) (count later : ℕ) (before after : Option (Shape V))
      (key : List ℕ) → IsSound most count before → count ≤ later → IsTakenIn key before after
      → IsSound most later after
  sound-taken most count later before None key sound le taken = tt
  sound-taken most count later before (Some root) key sound le taken =
      let Keys : Bool → List ℕ → Type 0 = λ t q. IsSome (cond t None (found_in before q))
      → IsKey most q in
      let both : (q : List ℕ) (t : Bool) → Keys t q =
      λ q. elim [
        | true ↦ (λ there. absurd (false≢true there))
        | false ↦ (λ there. admitted most count before sound q there)
      ] in
      let fewer : finite.len (map_of (Some root)) ≤ count =
      rw (
        map-taken before (Some root) key (tree-in most count before sound) taken,
        finite.len-remove nat_list_cmp_total (map_of before) key,
      )
      (one-less (finite.contains_key (map_of before) key) _ count (few most count before sound))
      in (
        taken.0,
        (λ q there. both q (bytes_eq q key) (subst IsSome (taken.1 q) there)),
        omega (arith, fewer, le),
      )

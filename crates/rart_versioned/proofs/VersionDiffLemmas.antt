-- Walks over two versions, and the changes between these.
use Rattle.std.proofs.Common.{◌≡◌, ◌+◌, ◌≤◌, ℕ, Bool, true, false, cond, List, [], ◌∷◌, ◌++◌, Option, Some, None, length, arith, ap, sym, subst, ◌∙◌}
use Rattle.std.specs.Ordering.{eq_by_cmp}
use Rattle.std.specs.FinMap as finite
use Rattle.std.proofs.lemmas.Cmp.{nat_list_cmp_total}
use Rattle.std.proofs.lemmas.List.{length-append}
use Rattle.rart_below.specs.Bytes.{byte_order}
use Rattle.rart_maps.specs.ChangeLists.{Change, change_of, changes, joined}
use Rattle.rart_walks.specs.Diffs.{changes_between, map_with}
use Rattle.rart_maps.specs.FoundLaws.{KeysAscend}
use Rattle.rart_maps.specs.Pairs.{pairs}
use Rattle.rart_maps.specs.Versions.{Map, Version}
use Rattle.rart_maps.proofs.FoundLemmas.{pairs_ascend_by_key}
use Rattle.rart_maps.proofs.OrderLemmas.{byte_order-IsAntisymmetric}
use Rattle.rart_node.specs.KeyPaths.{HoldsBytes, extent_in_bytes}
use Rattle.rart_walks.specs.WalkFields.{IsWalk, cursor}
use Rattle.rart_walks.specs.declared.walk.Walk.{Walk}
use Rattle.rart_versioned.specs.TreeWalks.{AreWalks}
use Rattle.rart_versioned.specs.TreeWalks.{AreAdmitted}
use Rattle.rart_versioned.proofs.MeetLemmas.{filtered-few}

-- A map is that of its pairs.
map-pairs : {V : Type 0} (m : Map V) → map_with (pairs m) ≡ m
map-pairs m =
    finite.same_map nat_list_cmp_total byte_order-IsAntisymmetric (map_with (pairs m)) m
    (λ q. finite.get-from_entries nat_list_cmp_total (pairs m) q ∙ sym (finite.get-entries m q))

one-more : (b : Bool) (n m : ℕ) → n ≤ m → cond b n (n + 1) ≤ m + 1
one-more true n m le = omega (arith, le)
one-more false n m le = omega (arith, le)

module _ {V : Type 0} where
  cons-entries : (entry : List ℕ × V) (entries : List (List ℕ × V))
      → map_with (entry ∷ entries) ≡ finite.insert (map_with entries) entry.0 entry.1
  cons-entries entry entries =
      finite.same_map nat_list_cmp_total byte_order-IsAntisymmetric (map_with (entry ∷ entries))
      (finite.insert (map_with entries) entry.0 entry.1) (λ q.
      finite.get-from_entries nat_list_cmp_total (entry ∷ entries) q
      ∙ ap (cond (eq_by_cmp byte_order q entry.0) (Some entry.1))
      (sym (finite.get-from_entries nat_list_cmp_total entries q))
      ∙ sym (finite.get-insert nat_list_cmp_total (map_with entries) entry.0 entry.1 q))

  no-entries : map_with {V = V} [] ≡ finite.empty
  no-entries =
      finite.same_map nat_list_cmp_total byte_order-IsAntisymmetric (map_with {V = V} [])
      finite.empty (λ q. finite.get-from_entries nat_list_cmp_total [] q
      ∙ sym (finite.get-empty byte_order q))

  -- A map has no more keys than it is made of entries,
  pub entries-few : (entries : List (List ℕ × V)) → finite.len (map_with entries) ≤ length entries
  entries-few [] =
      let none = ap finite.len no-entries ∙ finite.len-empty byte_order V in omega (arith, none)
  entries-few (entry ∷ entries) =
      let more = one-more (finite.contains_key (map_with entries) entry.0)
      (finite.len (map_with entries)) (length entries) (entries-few entries) in
      let set = ap finite.len (cons-entries entry entries)
      ∙ finite.len-insert nat_list_cmp_total (map_with entries) entry.0 entry.1 in
      omega (arith, set, more)

  -- so there are no more changes from one to another than both have keys.
  pub changes-few : (same : V → V → Bool) (old new : Map V)
      → length (changes same old new) ≤ finite.len old + finite.len new
  changes-few same old new =
      let some = filtered-few {B = Change V}
      (λ pair. change_of same pair.0 (finite.get old pair.0) (finite.get new pair.0))
      (pairs (joined old new)) in
      let all = finite.len-entries (joined old new) in
      let few = entries-few (pairs old ++ pairs new) in
      let both = length-append (pairs old) (pairs new) in
      let one = finite.len-entries old in
      let other = finite.len-entries new in
      omega (arith, some, all, few, both, one, other)

module _ {P V : Type 0} {partial : _} (same : V → V → Bool)
    (most : Option ℕ) (v w : Version V) (old new : Walk P V (List ℕ) partial) where
  pub walks-are : IsWalk HoldsBytes extent_in_bytes None old → IsWalk HoldsBytes extent_in_bytes None new
      → (cursor old).pairs ≡ pairs v.content
      → (cursor new).pairs ≡ pairs w.content
      → AreAdmitted most (cursor old).pairs → AreAdmitted most (cursor new).pairs
      → AreWalks same most v w old new
  walks-are old_walk new_walk is also old_admitted new_admitted =
      record {
        old_walk = old_walk;
        new_walk = new_walk;
        old_ascends = subst (KeysAscend (λ pair. pair.0)) (sym is)
            (pairs_ascend_by_key V v.content);
        new_ascends =
            subst (KeysAscend (λ pair. pair.0)) (sym also) (pairs_ascend_by_key V w.content);
        old_admitted = old_admitted;
        new_admitted = new_admitted;
        changes_are = (λ i. changes_between same (is i) (also i))
            ∙ (λ i. changes same (map-pairs v.content i) (map-pairs w.content i));
      }

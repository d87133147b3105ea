-- Making changes one after the other.
use Rattle.std.proofs.Common.{◌≡◌, ◌+◌, ◌≤◌, ⊎_elim, inr, ℕ, List, [], ◌∷◌, ◌++◌, Bool, Option, Some, None, cond, true, false, is_some, length, map, refl, sym, ap, subst, ◌∙◌, arith}
use Rattle.std.specs.FinMap as finite
use Rattle.std.specs.List.{cons_option}
use Rattle.std.specs.Option.{unwrap_or}
use Rattle.std.specs.Prelude.{Contains, ◌||◌}
use Rattle.std.specs.Ordering.{eq_by_cmp}
use Rattle.std.proofs.lemmas.List.{length-map}
use Rattle.std.proofs.lemmas.List.Sums.{count_by-le-length, sum_by-append, sum_by-cons}
use Rattle.std.proofs.lemmas.Cmp.{nat_list_cmp_total}
use Rattle.std.proofs.lemmas.List.Kept.{AllPairs-cons}
use Rattle.rart_below.specs.Bytes.{byte_order}
use Rattle.rart_maps.specs.Lookups.{with_value}
use Rattle.rart_maps.specs.Pairs.{Strings, pairs}
use Rattle.rart_maps.specs.Versions.{Map, has_key, without_key}
use Rattle.rart_maps.specs.FoundLaws.{KeysAscend}
use Rattle.rart_maps.specs.Order.{IsBefore}
use Rattle.rart_maps.proofs.ElementLemmas.{All-from_contains, AllPairs-first, AllPairs-rest, Contains-filter_map, Contains-map, Contains-here, Contains-later, Contains-cases, Contains-nil}
use Rattle.rart_maps.proofs.FoundLemmas.{pairs_ascend_by_key}
use Rattle.rart_maps.proofs.OrderLemmas.{IsBefore-itself, byte_order-IsAntisymmetric}
use Rattle.rart_maps.proofs.VersionLemmas.{same_key}
use Rattle.rart_maps.specs.ChangeLists.{Change, change_of, effects, patched, takes_effect}
use Rattle.rart_maps.proofs.ChangeLemmas.{KeysAscend-kept, change_of-is, filter_map-all, patched-elsewhere}
use Rattle.rart_changes.specs.ChangeVisits.{changes_at}
use Rattle.rart_changes.specs.Rebasing.{IsTrackedSetTo}
use Rattle.rart_changes.specs.Tracking.{Tracking, after_insertion, after_removal, listed, touching}
use Rattle.rart_changes.proofs.ShowLemmas.{changes_at-cons}
use Rattle.rart_changes.proofs.TrackingLemmas.{in-with}

module _ {V : Type 0} where
  pub patched-append : (m : Map V) (xs ys : List (Change V))
      → patched m (xs ++ ys) ≡ patched (patched m xs) ys
  patched-append m [] ys = refl
  patched-append m (x ∷ xs) ys = patched-append (with_value m x.0 x.2) xs ys

  not_some-is_None : (o : Option V) → is_some o ≡ false → None ≡ o
  not_some-is_None None not = refl
  not_some-is_None (Some x) not = absurd (cc not)

  -- A map without a key is the map without it.
  pub removed-absent : (m : Map V) (w : List ℕ) → is_some (finite.get m w) ≡ false
      → finite.remove m w ≡ m
  removed-absent m w absent =
      finite.same_map nat_list_cmp_total byte_order-IsAntisymmetric _ _ (λ q.
      finite.get-remove nat_list_cmp_total m w q
      ∙ elim (eq_by_cmp byte_order q w) as (λ t. eq_by_cmp byte_order q w ≡ t
      → cond t None (finite.get m q) ≡ finite.get m q) [
        | true ↦ λ same. not_some-is_None (finite.get m q)
            (ap (λ u. is_some (finite.get m u)) (same_key q w same) ∙ absent)
        | false ↦ λ _. refl
      ] refl)

  pub set-by-insertion : (t after : Tracking V) (w : List ℕ) (x y : V)
      → after ≡ after_insertion t w y → y ≡ x → IsTrackedSetTo t w (Some x) after
  set-by-insertion t after w x y is same =
      subst (IsTrackedSetTo t w (Some x)) (sym is)
      (subst (λ z. IsTrackedSetTo t w (Some z) (after_insertion t w y)) same (record {
        base = refl;
        current = record { content = refl; number = refl };
        touched = in-with t.touched w;
      }))

  deleted : (t : Tracking V) (w : List ℕ) (there : Bool) → has_key t.current w ≡ there
      → IsTrackedSetTo t w None (cond there (touching t w (without_key t.current w 1)) t)
  deleted t w true is =
      record {
        base = refl;
        current = record {
          content = refl;
          number = let one = ap {B = ℕ} (λ there. cond there 1 0) is in omega (arith, one);
        };
        touched = in-with t.touched w;
      }
  deleted t w false is =
      record {
        base = refl;
        current = record {
          content = sym (removed-absent t.current.content w is);
          number = let none = ap {B = ℕ} (λ there. cond there 1 0) is in omega (arith, none);
        };
        touched = λ q there. inr there;
      }

  pub set-by-deletion : (t after : Tracking V) (w : List ℕ) → after ≡ after_removal t w
      → IsTrackedSetTo t w None after
  set-by-deletion t after w is =
      subst (IsTrackedSetTo t w None) (sym is) (deleted t w (has_key t.current w) refl)

-- As many keys are listed as are in the set.
pub keys-counted : {K : Type 0} (bytes : K → List ℕ) (items : List K) (keys : Strings)
    → map bytes items ≡ listed keys → length items ≡ finite.len keys
keys-counted bytes items keys is =
    sym (length-map items bytes) ∙ ap length is
    ∙ length-map (finite.entries keys) (λ entry. entry.0) ∙ sym (finite.len-entries keys)

-- ---- how many changes take effect

Contains-one : (w v : List ℕ) → Contains (w ∷ []) v → v ≡ w
Contains-one w v there =
    ⊎_elim (λ is. sym is) (λ later. absurd (Contains-nil v later)) (Contains-cases w [] v there)

effects-append : {V : Type 0} (m : Map V) (xs ys : List (Change V))
    → effects m (xs ++ ys) ≡ effects m xs + effects m ys
effects-append m xs ys = sum_by-append (λ c. cond (takes_effect m c) 1 0) xs ys

module _ {V : Type 0} (same : V → V → Bool) (old new : Map V) where
  abbrev at : List (List ℕ) → List (Change V)
  at ws = changes_at same old new ws

  -- A change at some keys is of one of them.
  changes_at-of : (ws : List (List ℕ)) (c : Change V) → Contains (at ws) c → Contains ws c.0
  changes_at-of ws c there =
      let found = (Contains-filter_map (λ w. change_of same w (finite.get old w) (finite.get new w))
      ws c).0 there in
      subst (Contains ws) (ap (λ d. d.0) (sym (change_of-is same found.0 (finite.get old found.0)
      (finite.get new found.0) c found.2).0)) found.1

  -- The changes of other keys take effect on a map as they do once the change at this one is made.
  effects-later : (m : Map V) (w : List ℕ) (rest : List (List ℕ)) (cs : List (Change V))
      → ((v : List ℕ) → Contains rest v → v ≡ w → ⊥)
      → ((c : Change V) → Contains cs c → Contains rest c.0)
      → effects (patched m (at (w ∷ []))) cs ≡ effects m cs
  effects-later m w rest [] apart among = refl
  effects-later m w rest (c ∷ cs) apart among =
      let other = patched-elsewhere (at (w ∷ [])) m c.0 (λ d there is.
      apart c.0 (among c (Contains-here c cs))
      (is ∙ Contains-one w d.0 (changes_at-of (w ∷ []) d there))) in
      let later = effects-later m w rest cs apart
      (λ d there. among d (Contains-later c cs d there)) in
      sum_by-cons (λ d. cond (takes_effect (patched m (at (w ∷ []))) d) 1 0) c cs
      ∙ (λ i. cond (is_some c.2 || is_some (other i)) 1 0 + later i)
      ∙ sym (sum_by-cons (λ d. cond (takes_effect m d) 1 0) c cs)

  -- What is left of ascending keys, once the first one's change is made.
  pub effects-next : (m : Map V) (w : List ℕ) (rest : List (List ℕ))
      → ((v : List ℕ) → Contains rest v → IsBefore w v)
      → effects m (at (w ∷ rest))
      ≡ effects m (at (w ∷ [])) + effects (patched m (at (w ∷ []))) (at rest)
  effects-next m w rest before =
      ap (effects m) (changes_at-cons same old new w rest)
      ∙ effects-append m (at (w ∷ [])) (at rest)
      ∙ ap (λ n. effects m (at (w ∷ [])) + n)
      (sym (effects-later m w rest (at rest)
      (λ v there is. IsBefore-itself w (subst (IsBefore w) is (before v there)))
      (λ c there. changes_at-of rest c there)))

-- At one key at most one does.
pub effects-one : {V : Type 0} (same : V → V → Bool) (old new m : Map V) (w : List ℕ)
    → effects m (changes_at same old new (w ∷ [])) ≤ 1
effects-one same old new m w =
    let few = count_by-le-length (takes_effect m) (changes_at same old new (w ∷ [])) in
    let one : length (changes_at same old new (w ∷ [])) ≤ 1 =
    elim (change_of same w (finite.get old w) (finite.get new w))
    as (λ found. length (cons_option found []) ≤ 1) [
      | None ↦ omega arith
      | Some c ↦ omega arith
    ] in
    omega (arith, few, one)

-- The keys of a set ascend.
pub listed-ascends : (keys : Strings) → KeysAscend (λ w. w) (listed keys)
listed-ascends keys =
    subst (KeysAscend (λ w. w)) (filter_map-all (λ (pair : List ℕ × Unit {0}). pair.0) (pairs keys))
    (KeysAscend-kept (λ (pair : List ℕ × Unit {0}). pair.0) (λ (w : List ℕ). w)
    (λ pair. Some pair.0) (λ pair w is. sym (ap (λ o. unwrap_or o w) is)) (pairs keys)
    (pairs_ascend_by_key (Unit {0}) keys))

-- Elements ascend by their keys where these, listed, ascend.
pub KeysAscend-of : {A : Type 0} (key : A → List ℕ) (xs : List A) → KeysAscend (λ w. w) (map key xs)
    → KeysAscend key xs
KeysAscend-of key [] ascends = λ i j d less below. absurd (omega (arith, below))
KeysAscend-of key (x ∷ xs) ascends =
    AllPairs-cons (λ a b. IsBefore (key a) (key b)) x xs
    (All-from_contains (λ e. IsBefore (key x) (key e)) xs
    (λ e there. AllPairs-first (λ v w. IsBefore v w) (key x) (map key xs) ascends (key e)
    (Contains-map key xs e there)))
    (KeysAscend-of key xs (AllPairs-rest (λ v w. IsBefore v w) (key x) (map key xs) ascends))

-- Which changes stand in a list of them, and what they make of a map.
use Rattle.std.proofs.Common.{◌≡◌, ℕ, Bool, true, false, cond, List, [], ◌∷◌, ◌++◌, map, Option, Some, None, refl, sym, ap, subst, ◌∙◌, ⊎_elim, arith}
use Rattle.std.specs.Prelude.{Contains}
use Rattle.std.specs.List.{filter_map, cons_option}
use Rattle.std.specs.Option.{unwrap_or, is_some}
use Rattle.std.specs.Ordering.{eq_by_cmp, is_eq}
use Rattle.std.specs.Cmp.{tied_itself}
use Rattle.std.specs.FinMap as finite
use Rattle.std.specs.FinMap.Entries.{find}
use Rattle.std.proofs.lemmas.Bool.{false≢true}
use Rattle.std.proofs.lemmas.Cmp.{nat_list_cmp_total}
use Rattle.std.proofs.lemmas.List.Kept.{AllPairs-cons}
use Rattle.rart_below.specs.Bytes.{byte_order}
use Rattle.rart_maps.specs.FoundLaws.{KeysAscend}
use Rattle.rart_maps.specs.Lookups.{with_value}
use Rattle.rart_maps.specs.Order.{IsBefore}
use Rattle.rart_maps.specs.Pairs.{pairs}
use Rattle.rart_maps.specs.Versions.{Map}
use Rattle.rart_maps.proofs.ElementLemmas.{Contains-nil, Contains-here, Contains-later, Contains-cases, All-from_contains, AllPairs-first, AllPairs-rest, Contains-filter_map}
use Rattle.rart_maps.proofs.FoundLemmas.{Contains-pairs, pairs_ascend_by_key}
use Rattle.rart_maps.proofs.OrderLemmas.{IsBefore-itself}
use Rattle.rart_maps.proofs.VersionLemmas.{same_key}
use Rattle.rart_maps.specs.ChangeLists.{Change, patched, joined, differ, change_of, changes}

-- What is kept of a list whose keys ascend ascends, where each element keeps its key.
module _ {A B : Type 0} (key : A → List ℕ) (key_of : B → List ℕ) (kept : A → Option B)
    (keeps : (x : A) (y : B) → kept x ≡ Some y → key_of y ≡ key x) where
  pub KeysAscend-kept : (xs : List A) → KeysAscend key xs → KeysAscend key_of (filter_map kept xs)
  KeysAscend-kept [] ascends = λ i j d less below. absurd (omega (arith, below))
  KeysAscend-kept (x ∷ xs) ascends =
      let more = KeysAscend-kept xs
      (AllPairs-rest (λ a b. IsBefore (key a) (key b)) x xs ascends) in
      elim (kept x) as (λ o. kept x ≡ o → KeysAscend key_of (cons_option o (filter_map kept xs))) [
        | None ↦ λ _. more
        | Some y ↦ λ is. AllPairs-cons (λ a b. IsBefore (key_of a) (key_of b)) y
            (filter_map kept xs)
            (All-from_contains (λ e. IsBefore (key_of y) (key_of e)) (filter_map kept xs)
            (λ e there.
            let found = (Contains-filter_map kept xs e).0 there in
            subst (λ k. IsBefore k (key_of e)) (sym (keeps x y is))
            (subst (IsBefore (key x)) (sym (keeps found.0 e found.2))
            (AllPairs-first (λ a b. IsBefore (key a) (key b)) x xs ascends found.0 found.1))))
            more
      ] refl

-- To keep all is to map.
pub filter_map-all : {A B : Type 0} (f : A → B) (xs : List A)
    → filter_map (λ x. Some (f x)) xs ≡ map f xs
filter_map-all f [] = refl
filter_map-all f (x ∷ xs) = ap (λ ys. f x ∷ ys) (filter_map-all f xs)

pub nothing-in : {A : Type 0} (xs : List A) → ((x : A) → Contains xs x → ⊥) → xs ≡ []
nothing-in [] none = refl
nothing-in (x ∷ xs) none = absurd (none x (Contains-here x xs))

module _ {V : Type 0} where
  abbrev pub or_else : Option V → Option V → Option V
  or_else None other = other
  or_else (Some x) other = Some x

  find-joined : (xs ys : List (List ℕ × V)) (q : List ℕ) → find byte_order q (xs ++ ys)
      ≡ or_else (find byte_order q xs) (find byte_order q ys)
  find-joined [] ys q = refl
  find-joined (pair ∷ xs) ys q =
      elim (eq_by_cmp byte_order q pair.0)
      as (λ t. cond t (Some pair.1) (find byte_order q (xs ++ ys))
      ≡ or_else (cond t (Some pair.1) (find byte_order q xs)) (find byte_order q ys))
      [ true ↦ refl | false ↦ find-joined xs ys q ]

  pub get-joined : (old new : Map V) (q : List ℕ)
      → finite.get (joined old new) q ≡ or_else (finite.get old q) (finite.get new q)
  get-joined old new q =
      finite.get-from_entries nat_list_cmp_total (pairs old ++ pairs new) q
      ∙ find-joined (pairs old) (pairs new) q
      ∙ (λ i. or_else (sym (finite.get-entries old q) i) (sym (finite.get-entries new q) i))

  get-with_value : (m : Map V) (key : List ℕ) (value : Option V) (q : List ℕ)
      → finite.get (with_value m key value) q
      ≡ cond (eq_by_cmp byte_order q key) value (finite.get m q)
  get-with_value m key None q = finite.get-remove nat_list_cmp_total m key q
  get-with_value m key (Some x) q = finite.get-insert nat_list_cmp_total m key x q

  -- Changes of other keys leave what is at this one.
  pub patched-elsewhere : (cs : List (Change V)) (m : Map V) (q : List ℕ)
      → ((c : Change V) → Contains cs c → q ≡ c.0 → ⊥)
      → finite.get (patched m cs) q ≡ finite.get m q
  patched-elsewhere [] m q none = refl
  patched-elsewhere (c ∷ cs) m q none =
      patched-elsewhere cs (with_value m c.0 c.2) q
      (λ d there. none d (Contains-later c cs d there))
      ∙ get-with_value m c.0 c.2 q
      ∙ elim (eq_by_cmp byte_order q c.0) as (λ t. eq_by_cmp byte_order q c.0 ≡ t
      → cond t c.2 (finite.get m q) ≡ finite.get m q) [
        | true ↦ λ tie. absurd (none c (Contains-here c cs) (same_key q c.0 tie))
        | false ↦ λ _. refl
      ] refl

  -- A change of a key sets it.
  pub patched-there : (cs : List (Change V)) (m : Map V) → KeysAscend (λ c. c.0) cs
      → (c : Change V) → Contains cs c → finite.get (patched m cs) c.0 ≡ c.2
  patched-there [] m ascends c there = absurd (Contains-nil c there)
  patched-there (d ∷ cs) m ascends c there =
      ⊎_elim
      (λ is. subst (λ (e : Change V). finite.get (patched m (d ∷ cs)) e.0 ≡ e.2) is
      (patched-elsewhere cs (with_value m d.0 d.2) d.0
      (λ e later at. IsBefore-itself d.0 (subst (IsBefore d.0) (sym at)
      (AllPairs-first (λ a b. IsBefore a.0 b.0) d cs ascends e later)))
      ∙ get-with_value m d.0 d.2 d.0
      ∙ ap (λ r. cond (is_eq r) d.2 (finite.get m d.0)) (tied_itself nat_list_cmp_total d.0)))
      (λ later. patched-there cs (with_value m d.0 d.2)
      (AllPairs-rest (λ a b. IsBefore a.0 b.0) d cs ascends) c later)
      (Contains-cases d cs c there)

module _ {V : Type 0} (same : V → V → Bool) where
  pub change_of-is : (key : List ℕ) (x y : Option V) (c : Change V) → change_of same key x y
      ≡ Some c
      → (c ≡ (key, x, y)) × (differ same x y ≡ true)
  change_of-is key x y c is =
      elim (differ same x y) as (λ d. cond d (Some (key, x, y)) None ≡ Some c
      → (c ≡ (key, x, y)) × (d ≡ true)) [
        | true ↦ λ is. (sym (ap (λ o. unwrap_or o (key, x, y)) is), refl)
        | false ↦ λ is. absurd (false≢true (ap is_some is))
      ] is

  -- Where two look-ups differ one of them has a value.
  some_of : (x y : Option V) → differ same x y ≡ true → (z : V) × (or_else x y ≡ Some z)
  some_of None None d = absurd (false≢true d)
  some_of None (Some y) d = (y, refl)
  some_of (Some x) y d = (x, refl)

  module _ (old new : Map V) where
    abbrev at_pair : List ℕ × V → Option (Change V)
    at_pair pair = change_of same pair.0 (finite.get old pair.0) (finite.get new pair.0)

    pub changes-ascend : KeysAscend (λ c. c.0) (changes same old new)
    changes-ascend =
        KeysAscend-kept (λ (pair : List ℕ × V). pair.0) (λ (c : Change V). c.0) at_pair
        (λ pair c is. ap (λ d. d.0)
        (change_of-is pair.0 (finite.get old pair.0) (finite.get new pair.0) c is).0)
        (pairs (joined old new)) (pairs_ascend_by_key V (joined old new))

    pub changes-from : (c : Change V) → Contains (changes same old new) c
        → (finite.get old c.0 ≡ c.1) × (finite.get new c.0 ≡ c.2) × (differ same c.1 c.2 ≡ true)
    changes-from c there =
        let found = (Contains-filter_map at_pair (pairs (joined old new)) c).0 there in
        let is = change_of-is found.0.0 (finite.get old found.0.0) (finite.get new found.0.0) c
        found.2 in
        subst (λ (d : Change V). (finite.get old d.0 ≡ d.1) × (finite.get new d.0 ≡ d.2)
        × (differ same d.1 d.2 ≡ true)) (sym is.0) (refl, refl, is.1)

    pub changes-to : (key : List ℕ) (x y : Option V) → finite.get old key ≡ x
        → finite.get new key ≡ y → differ same x y ≡ true
        → Contains (changes same old new) (key, x, y)
    changes-to key x y a b d =
        let some = some_of x y d in
        (Contains-filter_map at_pair (pairs (joined old new)) (key, x, y)).1 (
          (key, some.0),
          (Contains-pairs (joined old new) key some.0).1
              (get-joined old new key ∙ (λ i. or_else (a i) (b i)) ∙ some.1),
          (λ i. change_of same key (a i) (b i)) ∙ ap (λ t. cond t (Some (key, x, y)) None) d,
        )
